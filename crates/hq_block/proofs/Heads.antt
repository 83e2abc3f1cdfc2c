-- A head that is read is spelled so, and what is spelled so is read.
use Rattle.std.proofs.Common.{◌≡◌, ℕ, ◌+◌, ◌^◌, ◌<◌, ◌≤◌, Bool, true, cond, leb, ◌&&◌, List, [], ◌∷◌, ◌++◌, length, take, drop, Option, Some, None, refl, sym, ap, subst, ◌∙◌, arith}
use Rattle.std.specs.Int.{w16, w32, to_be_bytes}
use Rattle.std.proofs.lemmas.List.{take_at, drop_at, take-append-drop, take-append-le, length-take}
use Rattle.hq_block.specs.declared.head.Head.{Head}
use Rattle.hq_block.specs.Block.{head_bytes, is_version, obeys}
use Rattle.hq_block.specs.Heads.{IsHead, HeadLength}
use Rattle.hq_block.specs.Reading.{◌>>=◌, number_at, after, byte_at, fields_at, head_at}
use Rattle.hq_block.proofs.After.{after_takes, after_again}
use Rattle.hq_block.proofs.Bools.{both_true, le-true}
use Rattle.hq_block.proofs.Flags.{IsBytes, IsBytes-tail}
use Rattle.hq_block.proofs.Numbers.{Takes, bind_some, guard_some, some_is, wide16, wide32, number_takes, number_again}

abbrev sign : List ℕ
sign = 0x48 ∷ 0x42 ∷ []

abbrev zeros : List ℕ
zeros = 0 ∷ 0 ∷ []

abbrev made : ℕ → ℕ → ℕ → ℕ → ℕ → Head
made v c s r b = record { version = v; columns = c; size = s; rows = r; bounds = b }

-- what is read after each field
abbrev Next : Type 0
Next = Option (Head × List ℕ)

abbrev after_bounds : ℕ → ℕ → ℕ → ℕ → ℕ × List ℕ → Next
after_bounds v c s r bounds = after zeros bounds.1 >>= λ body. Some (made v c s r bounds.0, body)

abbrev after_rows : ℕ → ℕ → ℕ → ℕ × List ℕ → Next
after_rows v c s rows = number_at w16 rows.1 >>= λ bounds. after_bounds v c s rows.0 bounds

abbrev after_size : ℕ → ℕ → ℕ × List ℕ → Next
after_size v c size = number_at w32 size.1 >>= λ rows. after_rows v c size.0 rows

abbrev after_columns : ℕ → ℕ × List ℕ → Next
after_columns v columns = number_at w32 columns.1 >>= λ size. after_size v columns.0 size

abbrev after_version : ℕ × List ℕ → Next
after_version version = byte_at version.1 >>= λ columns. after_columns version.0 columns

abbrev after_sign : List ℕ → Next
after_sign signed = byte_at signed >>= λ version. after_version version

byte_takes : (bytes : List ℕ) (b : ℕ) (rest : List ℕ) → IsBytes bytes → byte_at bytes ≡ Some (b, rest) → Takes bytes (b ∷ []) rest
byte_takes [] b rest fits e = absurd cc
byte_takes (x ∷ bytes) b rest fits e =
    let p = some_is (x, bytes) (b, rest) e in
    record { parts = λ i. (p i).0 ∷ (p i).1; rest_fits = subst IsBytes (λ i. (p i).1) (IsBytes-tail x bytes fits) }

-- a head was taken from the front
pub record TakesHead (bytes : List ℕ) (head : Head) (rest : List ℕ) : Type 0 where
  pub takes : Takes bytes (head_bytes head) rest
  pub row_count : head.rows < 2 ^ 32

fields_takes : (bytes : List ℕ) (x : Head × List ℕ) → IsBytes bytes → fields_at bytes ≡ Some x → TakesHead bytes x.0 x.1
unfolding fields_at
fields_takes bytes x fits e =
    let a = bind_some (after sign bytes) after_sign x e in
    let b = bind_some (byte_at a.0) after_version x a.2 in
    let c = bind_some (byte_at b.0.1) (after_columns b.0.0) x b.2 in
    let d = bind_some (number_at w32 c.0.1) (after_size b.0.0 c.0.0) x c.2 in
    let f = bind_some (number_at w32 d.0.1) (after_rows b.0.0 c.0.0 d.0.0) x d.2 in
    let g = bind_some (number_at w16 f.0.1) (after_bounds b.0.0 c.0.0 d.0.0 f.0.0) x f.2 in
    let h = bind_some (after zeros g.0.1) (λ body. Some (made b.0.0 c.0.0 d.0.0 f.0.0 g.0.0, body)) x g.2 in
    let signed = after_takes sign bytes a.0 fits a.1 in
    let version = byte_takes a.0 b.0.0 b.0.1 signed.rest_fits b.1 in
    let columns = byte_takes b.0.1 c.0.0 c.0.1 version.rest_fits c.1 in
    let size = number_takes w32 (2 ^ 32) wide32 c.0.1 d.0.0 d.0.1 columns.rest_fits d.1 in
    let rows = number_takes w32 (2 ^ 32) wide32 d.0.1 f.0.0 f.0.1 size.0.rest_fits f.1 in
    let bounds = number_takes w16 (2 ^ 16) wide16 f.0.1 g.0.0 g.0.1 rows.0.rest_fits g.1 in
    let body = after_takes zeros g.0.1 h.0 bounds.0.rest_fits h.1 in
    let whole : bytes ≡ head_bytes (made b.0.0 c.0.0 d.0.0 f.0.0 g.0.0) ++ h.0 =
    signed.parts
    ∙ ap (λ (l : List ℕ). sign ++ l) (version.parts
    ∙ ap (λ (l : List ℕ). b.0.0 ∷ l) (columns.parts
    ∙ ap (λ (l : List ℕ). c.0.0 ∷ l) (size.0.parts
    ∙ ap (λ (l : List ℕ). to_be_bytes w32 d.0.0 ++ l) (rows.0.parts
    ∙ ap (λ (l : List ℕ). to_be_bytes w32 f.0.0 ++ l) (bounds.0.parts
    ∙ ap (λ (l : List ℕ). to_be_bytes w16 g.0.0 ++ l) body.parts))))) in
    subst (λ (y : Head × List ℕ). TakesHead bytes y.0 y.1) (some_is (made b.0.0 c.0.0 d.0.0 f.0.0 g.0.0, h.0) x h.2) (record { takes = record { parts = whole; rest_fits = body.rest_fits }; row_count = rows.1 })

fields_again : (head : Head) (rest : List ℕ) → head.size < 2 ^ 32 → head.rows < 2 ^ 32 → head.bounds < 2 ^ 16 → fields_at (head_bytes head ++ rest) ≡ Some (head, rest)
unfolding fields_at
fields_again head rest small few short =
    let end : List ℕ = zeros ++ rest in
    let counted : List ℕ = to_be_bytes w16 head.bounds ++ end in
    let sized : List ℕ = to_be_bytes w32 head.rows ++ counted in
    let numbers : List ℕ = to_be_bytes w32 head.size ++ sized in
    ap (λ (r : Option (List ℕ)). r >>= after_sign) (after_again sign (head.version ∷ head.columns ∷ numbers))
    ∙ ap (λ (r : Option (ℕ × List ℕ)). r >>= after_size head.version head.columns) (number_again w32 (2 ^ 32) wide32 head.size sized small)
    ∙ ap (λ (r : Option (ℕ × List ℕ)). r >>= after_rows head.version head.columns head.size) (number_again w32 (2 ^ 32) wide32 head.rows counted few)
    ∙ ap (λ (r : Option (ℕ × List ℕ)). r >>= after_bounds head.version head.columns head.size head.rows) (number_again w16 (2 ^ 16) wide16 head.bounds end short)
    ∙ ap (λ (r : Option (List ℕ)). r >>= λ body. Some (head, body)) (after_again zeros rest)

-- what the rules say
pub record Rules (head : Head) : Type 0 where
  pub version : is_version head.version head.rows head.bounds ≡ true
  pub some_columns : 1 ≤ head.columns
  pub few_columns : head.columns ≤ 64
  pub short : head.size ≤ 65520
  pub within : head.bounds ≤ head.size

pub rules_of : (head : Head) → obeys head ≡ true → Rules head
rules_of head e =
    let a = both_true (is_version head.version head.rows head.bounds) (leb 1 head.columns && (leb head.columns 64 && (leb head.size 65520 && leb head.bounds head.size))) e in
    let b = both_true (leb 1 head.columns) (leb head.columns 64 && (leb head.size 65520 && leb head.bounds head.size)) a.1 in
    let c = both_true (leb head.columns 64) (leb head.size 65520 && leb head.bounds head.size) b.1 in
    let d = both_true (leb head.size 65520) (leb head.bounds head.size) c.1 in
    record { version = a.0; some_columns = le-true 1 head.columns b.0; few_columns = le-true head.columns 64 c.0; short = le-true head.size 65520 d.0; within = le-true head.bounds head.size d.1 }

pub record TakesLawful (bytes : List ℕ) (head : Head) (rest : List ℕ) : Type 0 where
  pub takes : Takes bytes (head_bytes head) rest
  pub row_count : head.rows < 2 ^ 32
  pub rules : obeys head ≡ true

pub head_takes : (bytes : List ℕ) (x : Head × List ℕ) → IsBytes bytes → head_at bytes ≡ Some x → TakesLawful bytes x.0 x.1
unfolding head_at
head_takes bytes x fits e =
    let a = bind_some (fields_at bytes) (λ head. cond (obeys head.0) (Some (head.0, head.1)) None) x e in
    let g = guard_some (obeys a.0.0) (Some (a.0.0, a.0.1)) x a.2 in
    let t = fields_takes bytes a.0 fits a.1 in
    subst (λ (y : Head × List ℕ). TakesLawful bytes y.0 y.1) (some_is (a.0.0, a.0.1) x g.1) (record { takes = t.takes; row_count = t.row_count; rules = g.0 })

pub head_again : (head : Head) (rest : List ℕ) → obeys head ≡ true → head.rows < 2 ^ 32 → head_at (head_bytes head ++ rest) ≡ Some (head, rest)
unfolding head_at
head_again head rest lawful few =
    let r = rules_of head lawful in
    ap (λ (o : Option (Head × List ℕ)). o >>= λ h. cond (obeys h.0) (Some (h.0, h.1)) None) (fields_again head rest (omega (arith, r.short)) few (omega (arith, r.short, r.within)))
    ∙ ap (λ (b : Bool). cond b (Some (head, rest)) None) lawful

pub length-head_bytes : (head : Head) → length (head_bytes head) ≡ 16
length-head_bytes head = refl

-- the head of a block is the one that its bytes begin with
pub head_same : (head other : Head) (bytes : List ℕ) → IsHead head bytes → IsHead other bytes → head ≡ other
head_same head other bytes is also =
    let same : Some (head, []) ≡ Some (other, []) =
    sym (head_again head [] is.rules is.row_count) ∙ ap (λ (l : List ℕ). head_at (l ++ [])) (sym is.spelled ∙ also.spelled) ∙ head_again other [] also.rules also.row_count in
    ap (λ (p : Head × List ℕ). p.0) (some_is (head, []) (other, []) same)

-- a head that was read is the one that the bytes begin with
pub head_read : (bytes : List ℕ) (head : Head) (rest : List ℕ) → IsBytes bytes → head_at bytes ≡ Some (head, rest) → IsHead head bytes × (rest ≡ drop 16 bytes)
head_read bytes head rest fits e =
    let t = head_takes bytes (head, rest) fits e in
    (record { rules = t.rules; row_count = t.row_count; spelled = ap (take 16) t.takes.parts ∙ take_at (head_bytes head) rest 16 refl }, sym (ap (drop 16) t.takes.parts ∙ drop_at (head_bytes head) rest 16 refl))

-- a head that the bytes begin with is read
pub head_found : (bytes : List ℕ) (head : Head) → IsHead head bytes → head_at bytes ≡ Some (head, drop 16 bytes)
head_found bytes head is = ap head_at (sym (take-append-drop 16 bytes) ∙ ap (λ (l : List ℕ). l ++ drop 16 bytes) is.spelled) ∙ head_again head (drop 16 bytes) is.rules is.row_count

pub no_head : (bytes : List ℕ) → head_at bytes ≡ None → (n : ℕ) → HeadLength bytes n → ⊥
no_head bytes none n is = let some : head_at bytes ≡ Some (is.head, drop 16 bytes) = head_found bytes is.head is.is in cc

pub one_length : (bytes : List ℕ) (m n : ℕ) → HeadLength bytes m → HeadLength bytes n → m ≡ n
one_length bytes m n is also = is.length_is ∙ ap (λ (h : Head). 16 + h.bounds) (head_same is.head also.head bytes is.is also.is) ∙ sym also.length_is

-- a head is 16 bytes, and what follows does not matter
pub head_in_front : (bytes more : List ℕ) (head : Head) → IsHead head bytes → (16 ≤ length bytes) × IsHead head (bytes ++ more)
head_in_front bytes more head is =
    let long : 16 ≤ length bytes = omega (arith, ap length is.spelled, length-take 16 bytes) in
    (long, record { rules = is.rules; row_count = is.row_count; spelled = take-append-le 16 bytes more long ∙ is.spelled })
