-- A datagram that is read is spelled so, and what is spelled so is read.
use Rattle.std.proofs.Common.{◌≡◌, ℕ, zero, suc, ◌+◌, ◌^◌, ◌<◌, ◌≤◌, Bool, true, false, ◌&&◌, cond, ltb, nat_eq, List, [], ◌∷◌, ◌++◌, length, Option, Some, None, refl, sym, ap, subst, ◌∙◌, arith, inl, inr}
use Rattle.std.specs.Int.{to_be_bytes, w16, w64}
use Rattle.std.proofs.lemmas.Bool.{ltb-true, eqb-true, eq-eqb, lt-ltb, and_parts, and_from, leb-true}
use Rattle.hq_link.specs.declared.datagram.Packet.{Packet}
use Rattle.hq_link.specs.declared.datagram.Packet.TheVariants.{Data, Eos, Ack, Probe}
use Rattle.hq_link.specs.declared.datagram.Datagram.{Datagram}
use Rattle.hq_link.specs.Gram.{code, may_bring, Fits, gram_bytes, IsGram}
use Rattle.hq_link.specs.Reading.{◌>>=◌, number_at, packet_of, fields_at, after_kind, gram_at}
use Rattle.std.specs.Prelude.{IfSome}
use Rattle.hq_link.specs.declared.reading.Seen.{Seen}
use Rattle.hq_link.specs.Seen.{seen}
use Rattle.hq_link.specs.Reading.{Gives}
use Rattle.hq_link.proofs.Numbers.{IsBytes, Takes, bind_some, guard_some, guard_none, some_is, wide16, wide64, number_takes, number_again}

passed : {A : Type 0} (b : Bool) (x : Option A) (y : A) → cond b x None ≡ Some y → (b ≡ true) × (x ≡ Some y)
passed true x y e = (refl, e)
passed false x y e = absurd cc

fields_again : (d : Datagram) → Fits d → fields_at d.kind d.from d.to (to_be_bytes w16 d.motion ++ (to_be_bytes w16 (length d.payload) ++ (to_be_bytes w64 d.query ++ (to_be_bytes w64 d.seq ++ d.payload)))) ≡ Some d
unfolding fields_at
fields_again d fits =
    let n = length d.payload in
    let short : n < 2 ^ 16 = small d.kind n fits.payload in
    let test : (nat_eq n n && may_bring d.kind n) ≡ true = and_from (nat_eq n n) (may_bring d.kind n) (eq-eqb n n refl) fits.payload in
    let last : Datagram → Option Datagram = λ e. Some e in
    ap (λ (r : Option (ℕ × List ℕ)). r >>= λ motion. number_at w16 motion.1 >>= λ size. number_at w64 size.1 >>= λ query. number_at w64 query.1 >>= λ seq. cond (nat_eq size.0 (length seq.1) && may_bring d.kind size.0) (Some (record { kind = d.kind; from = d.from; to = d.to; motion = motion.0; query = query.0; seq = seq.0; payload = seq.1 })) None)
    (number_again w16 (2 ^ 16) wide16 d.motion (to_be_bytes w16 n ++ (to_be_bytes w64 d.query ++ (to_be_bytes w64 d.seq ++ d.payload))) fits.motion)
    ∙ ap (λ (r : Option (ℕ × List ℕ)). r >>= λ size. number_at w64 size.1 >>= λ query. number_at w64 query.1 >>= λ seq. cond (nat_eq size.0 (length seq.1) && may_bring d.kind size.0) (Some (record { kind = d.kind; from = d.from; to = d.to; motion = d.motion; query = query.0; seq = seq.0; payload = seq.1 })) None)
    (number_again w16 (2 ^ 16) wide16 n (to_be_bytes w64 d.query ++ (to_be_bytes w64 d.seq ++ d.payload)) short)
    ∙ ap (λ (r : Option (ℕ × List ℕ)). r >>= λ query. number_at w64 query.1 >>= λ seq. cond (nat_eq n (length seq.1) && may_bring d.kind n) (Some (record { kind = d.kind; from = d.from; to = d.to; motion = d.motion; query = query.0; seq = seq.0; payload = seq.1 })) None)
    (number_again w64 (2 ^ 64) wide64 d.query (to_be_bytes w64 d.seq ++ d.payload) fits.query)
    ∙ ap (λ (r : Option (ℕ × List ℕ)). r >>= λ seq. cond (nat_eq n (length seq.1) && may_bring d.kind n) (Some (record { kind = d.kind; from = d.from; to = d.to; motion = d.motion; query = d.query; seq = seq.0; payload = seq.1 })) None)
    (number_again w64 (2 ^ 64) wide64 d.seq d.payload fits.seq)
    ∙ ap (λ (b : Bool). cond b (Some d) None) test
  where
    small : (kind : Packet) (n : ℕ) → may_bring kind n ≡ true → n < 2 ^ 16
    small Data n e = let t = and_parts (ltb 0 n) _ e in omega (arith, leb-true n 1200 t.1)
    small Eos n e = omega (arith, eqb-true n 0 e)
    small Ack n e = omega (arith, eqb-true n 0 e)
    small Probe n e = omega (arith, eqb-true n 0 e)

packet_again : (kind : Packet) → packet_of (code kind) ≡ Some kind
unfolding packet_of
packet_again Data = refl
packet_again Eos = refl
packet_again Ack = refl
packet_again Probe = refl

packet_takes : (n : ℕ) (kind : Packet) → packet_of n ≡ Some kind → n ≡ code kind
unfolding packet_of
packet_takes n kind e = by (nat_eq n 1) (nat_eq n 2) (nat_eq n 3) (nat_eq n 5) (eqb-true n 1) (eqb-true n 2) (eqb-true n 3) (eqb-true n 5) e
  where
    by : (a b c d : Bool) → (a ≡ true → n ≡ 1) → (b ≡ true → n ≡ 2) → (c ≡ true → n ≡ 3) → (d ≡ true → n ≡ 5) → cond a (Some Data) (cond b (Some Eos) (cond c (Some Ack) (cond d (Some Probe) None))) ≡ Some kind → n ≡ code kind
    by true b c d h i j k e = h refl ∙ ap code (some_is Data kind e)
    by false true c d h i j k e = i refl ∙ ap code (some_is Eos kind e)
    by false false true d h i j k e = j refl ∙ ap code (some_is Ack kind e)
    by false false false true h i j k e = k refl ∙ ap code (some_is Probe kind e)
    by false false false false h i j k e = absurd cc

pub gram_again : (d : Datagram) → Fits d → gram_at (gram_bytes d) ≡ Some d
unfolding gram_at after_kind
gram_again d fits =
    ap (λ (o : Option Packet). o >>= λ packet. cond (nat_eq 1 1 && (ltb d.from 16 && ltb d.to 16)) (fields_at packet d.from d.to (to_be_bytes w16 d.motion ++ (to_be_bytes w16 (length d.payload) ++ (to_be_bytes w64 d.query ++ (to_be_bytes w64 d.seq ++ d.payload))))) None) (packet_again d.kind)
    ∙ ap (λ (b : Bool). cond b (fields_at d.kind d.from d.to (to_be_bytes w16 d.motion ++ (to_be_bytes w16 (length d.payload) ++ (to_be_bytes w64 d.query ++ (to_be_bytes w64 d.seq ++ d.payload))))) None) (and_from (ltb d.from 16) (ltb d.to 16) (lt-ltb _ _ fits.from) (lt-ltb _ _ fits.to))
    ∙ fields_again d fits

record TakesFields (kind : Packet) (from to : ℕ) (bytes : List ℕ) (d : Datagram) : Type 0 where
  kind_is : d.kind ≡ kind
  from_is : d.from ≡ from
  to_is : d.to ≡ to
  motion : d.motion < 2 ^ 16
  query : d.query < 2 ^ 64
  seq : d.seq < 2 ^ 64
  payload : may_bring d.kind (length d.payload) ≡ true
  parts : bytes ≡ to_be_bytes w16 d.motion ++ (to_be_bytes w16 (length d.payload) ++ (to_be_bytes w64 d.query ++ (to_be_bytes w64 d.seq ++ d.payload)))

fields_take : (kind : Packet) (from to : ℕ) (bytes : List ℕ) (d : Datagram) → IsBytes bytes → fields_at kind from to bytes ≡ Some d → TakesFields kind from to bytes d
unfolding fields_at
fields_take kind from to bytes d fits e =
    let a = bind_some (number_at w16 bytes) (λ motion. number_at w16 motion.1 >>= λ size. number_at w64 size.1 >>= λ query. number_at w64 query.1 >>= λ seq. cond (nat_eq size.0 (length seq.1) && may_bring kind size.0) (Some (record { kind = kind; from = from; to = to; motion = motion.0; query = query.0; seq = seq.0; payload = seq.1 })) None) d e in
    let b = bind_some (number_at w16 a.0.1) (λ size. number_at w64 size.1 >>= λ query. number_at w64 query.1 >>= λ seq. cond (nat_eq size.0 (length seq.1) && may_bring kind size.0) (Some (record { kind = kind; from = from; to = to; motion = a.0.0; query = query.0; seq = seq.0; payload = seq.1 })) None) d a.2 in
    let c = bind_some (number_at w64 b.0.1) (λ query. number_at w64 query.1 >>= λ seq. cond (nat_eq b.0.0 (length seq.1) && may_bring kind b.0.0) (Some (record { kind = kind; from = from; to = to; motion = a.0.0; query = query.0; seq = seq.0; payload = seq.1 })) None) d b.2 in
    let f = bind_some (number_at w64 c.0.1) (λ seq. cond (nat_eq b.0.0 (length seq.1) && may_bring kind b.0.0) (Some (record { kind = kind; from = from; to = to; motion = a.0.0; query = c.0.0; seq = seq.0; payload = seq.1 })) None) d c.2 in
    let size = b.0.0 in
    let payload = f.0.1 in
    let g = passed (nat_eq size (length payload) && may_bring kind size) (Some (record { kind = kind; from = from; to = to; motion = a.0.0; query = c.0.0; seq = f.0.0; payload = payload })) d f.2 in
    let tests = and_parts (nat_eq size (length payload)) (may_bring kind size) g.0 in
    let len : size ≡ length payload = eqb-true size (length payload) tests.0 in
    let t = number_takes w16 (2 ^ 16) wide16 bytes a.0.0 a.0.1 fits a.1 in
    let u = number_takes w16 (2 ^ 16) wide16 a.0.1 b.0.0 b.0.1 t.0.rest_fits b.1 in
    let v = number_takes w64 (2 ^ 64) wide64 b.0.1 c.0.0 c.0.1 u.0.rest_fits c.1 in
    let w = number_takes w64 (2 ^ 64) wide64 c.0.1 f.0.0 f.0.1 v.0.rest_fits f.1 in
    let whole : bytes ≡ to_be_bytes w16 a.0.0 ++ (to_be_bytes w16 (length payload) ++ (to_be_bytes w64 c.0.0 ++ (to_be_bytes w64 f.0.0 ++ payload))) =
    t.0.parts ∙ ap (λ (l : List ℕ). to_be_bytes w16 a.0.0 ++ l) (u.0.parts ∙ (λ i. to_be_bytes w16 (len i) ++ (v.0.parts ∙ ap (λ (l : List ℕ). to_be_bytes w64 c.0.0 ++ l) w.0.parts) i)) in
    subst (λ (y : Datagram). TakesFields kind from to bytes y) (some_is (record { kind = kind; from = from; to = to; motion = a.0.0; query = c.0.0; seq = f.0.0; payload = payload }) d g.1)
    (record { kind_is = refl; from_is = refl; to_is = refl; motion = t.1; query = v.1; seq = w.1; payload = subst (λ n. may_bring kind n ≡ true) len tests.1; parts = whole })

pub gram_takes : (bytes : List ℕ) (d : Datagram) → IsBytes bytes → gram_at bytes ≡ Some d → IsGram d bytes
unfolding gram_at after_kind
gram_takes [] d fits e = absurd cc
gram_takes (kind ∷ []) d fits e = absurd cc
gram_takes (kind ∷ version ∷ []) d fits e = absurd cc
gram_takes (kind ∷ version ∷ from ∷ []) d fits e = absurd cc
gram_takes (kind ∷ version ∷ from ∷ to ∷ bytes) d fits e =
    let a = bind_some (packet_of kind) (λ packet. cond (nat_eq version 1 && (ltb from 16 && ltb to 16)) (fields_at packet from to bytes) None) d e in
    let g = passed (nat_eq version 1 && (ltb from 16 && ltb to 16)) (fields_at a.0 from to bytes) d a.2 in
    let tests = and_parts (nat_eq version 1) (ltb from 16 && ltb to 16) g.0 in
    let nodes = and_parts (ltb from 16) (ltb to 16) tests.1 in
    let t = fields_take a.0 from to bytes d (λ i. fits (suc (suc (suc (suc i))))) g.1 in
    let kind_is : kind ≡ code d.kind = packet_takes kind a.0 a.1 ∙ ap code (sym t.kind_is) in
    record {
      fits = record {
        from = subst (λ n. n < 16) (sym t.from_is) (ltb-true _ _ nodes.0);
        to = subst (λ n. n < 16) (sym t.to_is) (ltb-true _ _ nodes.1);
        motion = t.motion;
        query = t.query;
        seq = t.seq;
        payload = t.payload;
      };
      spelled = λ i. kind_is i ∷ eqb-true version 1 tests.0 i ∷ sym t.from_is i ∷ sym t.to_is i ∷ t.parts i;
    }

-- what was read is spelled so
pub spelled_of : (result : Option Seen) (bytes : List ℕ) → IsBytes bytes → Gives seen result (gram_at bytes) → IfSome result (λ d. IsGram (seen d) bytes)
spelled_of None bytes fits gives = tt
spelled_of (Some d) bytes fits gives = gram_takes bytes (seen d) fits gives
