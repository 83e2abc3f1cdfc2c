-- Streams from nodes that go down are each from a node of its own.
use Rattle.std.proofs.Common.{◌≡◌, ◌⊎◌, ℕ, zero, suc, ◌+◌, ◌<◌, ◌≤◌, Bool, true, false, ◌&&◌, ◌||◌, ltb, nat_eq, List, [], ◌∷◌, ◌++◌, length, get_or, Option, Some, None, Result, Ok, Err, refl, sym, ap, subst, ◌∙◌, arith, inl, inr}
use Rattle.std.specs.Prelude.{All, Vec, slice_get}
use Rattle.std.proofs.lemmas.Bool.{cases_lt, eqb-true, ltb-true}
use Rattle.std.proofs.lemmas.Option.{slice_get-get_or}
use Rattle.hq_link.specs.declared.link.LinkFault.{LinkFault}
use Rattle.hq_link.specs.Link.{LinkState, Told, IsIn, IsSent, added}
use Rattle.hq_link.specs.declared.datagram.Datagram.{Datagram}
use Rattle.hq_link.specs.Reading.{gram_at}
use Rattle.hq_sim.specs.Acting.{SimState, state_of}
use Rattle.hq_pump.proofs.Safety.{grows_sent}
use Rattle.hq_pump.specs.Safe.{AreAlone, AreEarlier, Grows, IsEarlier}
use Rattle.hq_pump.specs.Seen.{seen}
use Rattle.hq_wiretests.specs.Streams.{GoDown}

-- one more, from the node below
more_by : {A : Type 0} (xs : List (ℕ × Vec ℕ A)) (x : ℕ × Vec ℕ A) (k n : ℕ) → x.0 + length xs + k ≡ n → ((i : ℕ) (y : ℕ × Vec ℕ A) → slice_get xs i ≡ Some y → y.0 + i + k ≡ n) → (i : ℕ) (y : ℕ × Vec ℕ A) → slice_get (xs ++ x ∷ []) i ≡ Some y → y.0 + i + k ≡ n
more_by {A} [] x k n e h zero y at = let same : x ≡ y = cc in omega (arith, e, ap (λ (z : ℕ × Vec ℕ A). z.0) same)
more_by [] x k n e h (suc i) y at = absurd cc
more_by (z ∷ zs) x k n e h zero y at = h zero y at
more_by (z ∷ zs) x k n e h (suc i) y at = omega (arith, more_by zs x (suc k) n (omega (arith, e)) (λ j w f. omega (arith, h (suc j) w f)) i y at)

pub down_more : {A : Type 0} (first : ℕ) (xs : List (ℕ × Vec ℕ A)) (x : ℕ × Vec ℕ A) → x.0 + length xs ≡ first → GoDown first xs → GoDown first (xs ++ x ∷ [])
down_more first xs x is down i y at = omega (arith, more_by xs x 0 first (omega (arith, is)) (λ j w f. omega (arith, down j w f)) i y at)

-- each is from a node
pub down_below : {A : Type 0} (first : ℕ) (xs : List (ℕ × Vec ℕ A)) → first < 16 → GoDown first xs → All (λ stream. stream.0 < 16) xs
down_below first xs lt down k d within = let e = down k (get_or xs k d) (slice_get-get_or xs k d within) in omega (arith, e, lt)

pub down_few : {A : Type 0} (first : ℕ) (xs : List (ℕ × Vec ℕ A)) → first < 16 → GoDown first xs → length xs ≤ 16
down_few first [] lt down = omega arith
down_few first (x ∷ xs) lt down = elim (cases_lt 16 (length (x ∷ xs))) [
  | inl long ↦ (let e = down 16 (get_or (x ∷ xs) 16 x) (slice_get-get_or (x ∷ xs) 16 x long) in absurd (omega (arith, e, lt)))
  | inr few ↦ few
]

seen_at : {A : Type 0} (xs : List (ℕ × Vec ℕ A)) (i : ℕ) (x : ℕ × List ℕ) → slice_get (seen xs) i ≡ Some x → (y : ℕ × Vec ℕ A) × (slice_get xs i ≡ Some y) × (y.0 ≡ x.0)
seen_at [] i x e = absurd cc
seen_at (y ∷ ys) zero x e = (y, refl, (let same : y.0 ≡ x.0 = cc in same))
seen_at (y ∷ ys) (suc i) x e = seen_at ys i x e

pub down_alone : {A : Type 0} (first : ℕ) (xs : List (ℕ × Vec ℕ A)) → GoDown first xs → AreAlone (seen xs)
down_alone first xs down i j x y ex ey same =
    let a = seen_at xs i x ex in
    let b = seen_at xs j y ey in
    omega (arith, down i a.0 a.1, down j b.0 b.1, a.2, b.2, same)

-- what is earlier stays so with one more that is
earlier_grows : (q m : ℕ) (old new : Told) (bytes : List ℕ) → Grows old new (λ x. bytes ≡ x) → AreEarlier q m old → IsEarlier q m (gram_at bytes) → AreEarlier q m new
earlier_grows q m None None bytes grows are this = tt
earlier_grows q m None (Some ys) bytes grows are this = absurd grows
earlier_grows q m (Some xs) None bytes grows are this = tt
earlier_grows q m (Some xs) (Some ys) bytes grows are this = λ x h. elim (grows x h) [ inl i ↦ are x i | inr e ↦ subst (λ b. IsEarlier q m (gram_at b)) e this ]

pub earlier_sent : (q m : ℕ) (old new : LinkState) (bytes : List ℕ) (r : Result Unit LinkFault) → IsEarlier q m (gram_at bytes) → IsSent old bytes r new → AreEarlier q m old.may → AreEarlier q m new.may
earlier_sent q m old new bytes r this sent are = earlier_grows q m old.may new.may bytes (grows_sent old new bytes r sent) are this

-- a datagram that is earlier, or none
pub earlier_seen : (q m : ℕ) (o : Option Datagram) (d : Datagram) → o ≡ Some d → (ltb d.query q || (nat_eq d.query q && ltb d.motion m)) ≡ true → IsEarlier q m o
earlier_seen q m o d is e = subst (IsEarlier q m) (sym is) (by (ltb d.query q) (nat_eq d.query q) (ltb d.motion m) refl refl refl e)
  where
    by : (a b c : Bool) → ltb d.query q ≡ a → nat_eq d.query q ≡ b → ltb d.motion m ≡ c → (a || (b && c)) ≡ true → (d.query < q) ⊎ ((d.query ≡ q) × (d.motion < m))
    by true b c ea eb ec e = inl (ltb-true d.query q ea)
    by false true true ea eb ec e = inr (eqb-true d.query q eb, ltb-true d.motion m ec)
    by false true false ea eb ec e = absurd cc
    by false false c ea eb ec e = absurd cc

pub earlier_none : (q m : ℕ) (o : Option Datagram) → o ≡ None → IsEarlier q m o
earlier_none q m o is = subst (IsEarlier q m) (sym is) tt

-- nothing lies on a new link
pub earlier_new : (q m : ℕ) (s : SimState) → s.sent ≡ [] → AreEarlier q m (state_of s).may
earlier_new q m s none x h = absurd (subst (IsIn x) none h)
