-- Pieces that are kept stay kept until they are taken.
use Rattle.std.proofs.Common.{◌≡◌, ◌⊎◌, ℕ, zero, suc, ◌+◌, ◌-◌, ◌<◌, ◌≤◌, Bool, true, false, ◌||◌, cond, ltb, leb, List, [], ◌∷◌, ◌++◌, length, Option, Some, None, refl, sym, ap, subst, ◌∙◌, arith, inl, inr}
use Rattle.std.specs.Prelude.{replicate, slice_get, slice_set}
use Rattle.std.proofs.lemmas.Bool.{cases_eq, leb-true, ltb-false, ltb-true}
use Rattle.std.proofs.lemmas.List.{length-append, length-replicate}
use Rattle.hq_stream.specs.Piece.{Piece, Bytes, End}
use Rattle.hq_stream.specs.Receiving.{Receiving, taken, filled_up, is_outside, is_over, came}
use Rattle.hq_pump.proofs.Live.{taken_grows}

-- a piece is kept at a place
abbrev pub IsKept : List (Option Piece) → ℕ → Type 0
IsKept kept i = (p : Piece) × (slice_get kept i ≡ Some (Some p))

-- places of a list with more behind
get_more : (xs ys : List (Option Piece)) (i : ℕ) (o : Option Piece) → slice_get xs i ≡ Some o → slice_get (xs ++ ys) i ≡ Some o
get_more [] ys i o e = absurd cc
get_more (x ∷ xs) ys zero o e = e
get_more (x ∷ xs) ys (suc i) o e = get_more xs ys i o e

-- a piece that is not taken stays kept
taken_kept : (n : ℕ) (got : List ℕ) (kept : List (Option Piece)) (i : ℕ) (p : Piece) → slice_get kept i ≡ Some (Some p) → (taken n got kept).wanted ≤ n + i → (taken n got kept).ended ≡ false → slice_get (taken n got kept).kept (n + i - (taken n got kept).wanted) ≡ Some (Some p)
taken_kept n got [] i p e low goes = absurd cc
taken_kept n got (None ∷ kept) zero p e low goes = absurd cc
taken_kept n got (None ∷ kept) (suc i) p e low goes = subst (λ (j : ℕ). slice_get (None ∷ kept) j ≡ Some (Some p)) (let same : suc i ≡ n + suc i - n = omega arith in same) e
taken_kept n got (Some (Bytes bytes) ∷ kept) zero p e low goes = absurd (omega (arith, low, taken_grows (suc n) (got ++ bytes) kept))
taken_kept n got (Some (Bytes bytes) ∷ kept) (suc i) p e low goes =
    let w : ℕ = (taken (suc n) (got ++ bytes) kept).wanted in
    let here = taken_kept (suc n) (got ++ bytes) kept i p e (omega (arith, low)) goes in
    subst (λ (j : ℕ). slice_get (taken (suc n) (got ++ bytes) kept).kept j ≡ Some (Some p)) (let same : suc n + i - w ≡ n + suc i - w = omega arith in same) here
taken_kept n got (Some End ∷ kept) i p e low goes = absurd cc

-- the first place is empty behind what was taken
filled_first : (n : ℕ) (got : List ℕ) (kept : List (Option Piece)) → slice_get (filled_up (taken n got kept)).kept 0 ≡ Some None
filled_first n got [] = refl
filled_first n got (None ∷ kept) = refl
filled_first n got (Some (Bytes bytes) ∷ kept) = filled_first (suc n) (got ++ bytes) kept
filled_first n got (Some End ∷ kept) = refl

taken_length : (n : ℕ) (got : List ℕ) (kept : List (Option Piece)) → length (taken n got kept).kept ≤ length kept
taken_length n got [] = omega arith
taken_length n got (None ∷ kept) = omega arith
taken_length n got (Some (Bytes bytes) ∷ kept) = omega (arith, taken_length (suc n) (got ++ bytes) kept)
taken_length n got (Some End ∷ kept) = omega arith

filled_length : (t : Receiving) → length t.kept ≤ 16 → length (filled_up t).kept ≡ 16
filled_length t few =
    let len : length (t.kept ++ replicate (16 - length t.kept) None) ≡ length t.kept + (16 - length t.kept) = length-append t.kept (replicate (16 - length t.kept) None) ∙ ap (λ (k : ℕ). length t.kept + k) (length-replicate (16 - length t.kept) None) in
    omega (arith, len, few)

set_length : (kept : List (Option Piece)) (i : ℕ) (o : Option Piece) → length (slice_set kept i o) ≡ length kept
set_length [] i o = refl
set_length (x ∷ xs) zero o = refl
set_length (x ∷ xs) (suc i) o = ap suc (set_length xs i o)

set_there : (kept : List (Option Piece)) (i : ℕ) (o : Option Piece) → i < length kept → slice_get (slice_set kept i o) i ≡ Some o
set_there [] i o lt = absurd (omega (arith, lt))
set_there (x ∷ xs) zero o lt = refl
set_there (x ∷ xs) (suc i) o lt = set_there xs i o (omega (arith, lt))

set_elsewhere : (kept : List (Option Piece)) (i j : ℕ) (o z : Option Piece) → (i ≡ j → ⊥) → slice_get kept j ≡ Some z → slice_get (slice_set kept i o) j ≡ Some z
set_elsewhere [] i j o z other e = absurd cc
set_elsewhere (x ∷ xs) zero zero o z other e = absurd (other refl)
set_elsewhere (x ∷ xs) zero (suc j) o z other e = e
set_elsewhere (x ∷ xs) (suc i) zero o z other e = e
set_elsewhere (x ∷ xs) (suc i) (suc j) o z other e = set_elsewhere xs i j o z (λ same. other (ap suc same)) e

-- the places after a piece came
pub came_places : (r : Receiving) (n : ℕ) (p : Piece) → length r.kept ≡ 16 → length (came r n p).kept ≡ 16
came_places r n p len = by (is_outside r n)
  where
    by : (b : Bool) → length (cond b r (filled_up (taken r.wanted r.got (slice_set r.kept (n - r.wanted) (Some p))))).kept ≡ 16
    by true = len
    by false = filled_length (taken r.wanted r.got (slice_set r.kept (n - r.wanted) (Some p))) (omega (arith, taken_length r.wanted r.got (slice_set r.kept (n - r.wanted) (Some p)), set_length r.kept (n - r.wanted) (Some p), len))

pub came_first : (r : Receiving) (n : ℕ) (p : Piece) → slice_get r.kept 0 ≡ Some None → slice_get (came r n p).kept 0 ≡ Some None
came_first r n p first = by (is_outside r n)
  where
    by : (b : Bool) → slice_get (cond b r (filled_up (taken r.wanted r.got (slice_set r.kept (n - r.wanted) (Some p))))).kept 0 ≡ Some None
    by true = first
    by false = filled_first r.wanted r.got (slice_set r.kept (n - r.wanted) (Some p))

-- a piece that was kept, or has come, is kept still, where it isn't taken
pub record Keeps (r : Receiving) (n : ℕ) (p : Piece) (m : ℕ) : Type 0 where
  pub was : (IsKept r.kept (m - r.wanted)) ⊎ (m ≡ n)
  pub low : r.wanted ≤ m
  pub high : (came r n p).wanted ≤ m
  pub goes : (came r n p).ended ≡ false
  pub inside : m ≡ n → (n < r.wanted + 16) × (is_over r ≡ false)
  pub places : length r.kept ≡ 16

pub came_keeps : (r : Receiving) (n : ℕ) (p : Piece) (m : ℕ) → Keeps r n p m → IsKept (came r n p).kept (m - (came r n p).wanted)
came_keeps r n p m k = by (is_over r) (ltb n r.wanted) (leb (r.wanted + 16) n) refl refl refl k.high k.goes
  where
    filled : (t : Receiving) (i : ℕ) (q : Piece) → slice_get t.kept i ≡ Some (Some q) → slice_get (filled_up t).kept i ≡ Some (Some q)
    filled t i q e = get_more t.kept (replicate (16 - length t.kept) None) i (Some q) e

    kept_on : (q : Piece) → slice_get (slice_set r.kept (n - r.wanted) (Some p)) (m - r.wanted) ≡ Some (Some q) → (taken r.wanted r.got (slice_set r.kept (n - r.wanted) (Some p))).wanted ≤ m → (taken r.wanted r.got (slice_set r.kept (n - r.wanted) (Some p))).ended ≡ false → IsKept (filled_up (taken r.wanted r.got (slice_set r.kept (n - r.wanted) (Some p)))).kept (m - (taken r.wanted r.got (slice_set r.kept (n - r.wanted) (Some p))).wanted)
    kept_on q e high goes =
        let t : Receiving = taken r.wanted r.got (slice_set r.kept (n - r.wanted) (Some p)) in
        let whole : r.wanted + (m - r.wanted) ≡ m = omega (arith, k.low) in
        let there = taken_kept r.wanted r.got (slice_set r.kept (n - r.wanted) (Some p)) (m - r.wanted) q e (omega (arith, high, whole)) goes in
        (q, filled t (m - t.wanted) q (subst (λ (j : ℕ). slice_get t.kept (j - t.wanted) ≡ Some (Some q)) whole there))

    by : (a b c : Bool) → is_over r ≡ a → ltb n r.wanted ≡ b → leb (r.wanted + 16) n ≡ c → (cond (a || (b || c)) r (filled_up (taken r.wanted r.got (slice_set r.kept (n - r.wanted) (Some p))))).wanted ≤ m → (cond (a || (b || c)) r (filled_up (taken r.wanted r.got (slice_set r.kept (n - r.wanted) (Some p))))).ended ≡ false → IsKept (cond (a || (b || c)) r (filled_up (taken r.wanted r.got (slice_set r.kept (n - r.wanted) (Some p))))).kept (m - (cond (a || (b || c)) r (filled_up (taken r.wanted r.got (slice_set r.kept (n - r.wanted) (Some p))))).wanted)
    by true b c ea eb ec high goes = elim k.was [ inl kept ↦ kept | inr same ↦ (let i = k.inside same in let no : true ≡ false = sym ea ∙ i.1 in absurd cc) ]
    by false true c ea eb ec high goes = elim k.was [ inl kept ↦ kept | inr same ↦ absurd (omega (arith, same, k.low, ltb-true n r.wanted eb)) ]
    by false false true ea eb ec high goes = elim k.was [ inl kept ↦ kept | inr same ↦ absurd (omega (arith, (k.inside same).0, leb-true (r.wanted + 16) n ec)) ]
    by false false false ea eb ec high goes = elim (cases_eq n m) [
      | inl same ↦ kept_on p (subst (λ (j : ℕ). slice_get (slice_set r.kept (n - r.wanted) (Some p)) (j - r.wanted) ≡ Some (Some p)) same (set_there r.kept (n - r.wanted) (Some p) (omega (arith, (k.inside (sym same)).0, k.places, k.low, same)))) high goes
      | inr other ↦ elim k.was [
        | inl kept ↦ kept_on kept.0 (set_elsewhere r.kept (n - r.wanted) (m - r.wanted) (Some p) (Some kept.0) (λ e. other (omega (arith, e, ltb-false n r.wanted eb, k.low))) kept.1) high goes
        | inr same ↦ absurd (other (sym same))
      ]
    ]
