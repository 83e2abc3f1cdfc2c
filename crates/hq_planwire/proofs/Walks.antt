-- Rules that go through slices in order, and counts over them.
use Rattle.std.proofs.Common.{◌≡◌, ℕ, suc, ◌+◌, ◌-◌, ◌<◌, ◌≤◌, Bool, true, false, ◌&&◌, ◌==◌, List, [], ◌∷◌, ◌++◌, length, take, drop, get_or, refl, sym, ap, ◌∙◌, arith}
use Rattle.std.specs.Prelude.{flat_map, count_by}
use Rattle.std.specs.List.{list_all, list_any, range_with_len}
use Rattle.std.proofs.lemmas.List.{map-append, take_more, drop_more, get_or-map, take-map}
use Rattle.std.proofs.lemmas.Bool.{eqb-true, eq-eqb}
use Rattle.hq_algebra.specs.declared.op.Op.{Op}
use Rattle.hq_algebra.specs.declared.plan.Slice.{Slice}
use Rattle.hq_algebra.specs.Plans.{operators, received, fits_before, fit_in_order, receives_a_gather, ends_with_gather}
use Rattle.hq_planwire.specs.declared.slice_part.Part.{Part}
use Rattle.hq_planwire.specs.Rules.{counted, slices_of}
use Rattle.hq_planwire.proofs.Refs.{ends-last}

-- ---- from one slice to the next

length-slices_of : (parts : List Part) → length (slices_of parts) ≡ length parts
length-slices_of [] = refl
length-slices_of (x ∷ parts) = ap suc (length-slices_of parts)

pub fit_step : (parts : List Part) (i : ℕ) (x : Part) → i < length parts → x ≡ get_or parts i x
    → fit_in_order (take i (slices_of parts)) (drop i (slices_of parts))
    ≡ (fits_before (slices_of (take i parts)) x.slice.now && fit_in_order (take (i + 1) (slices_of parts)) (drop (i + 1) (slices_of parts)))
fit_step parts i x below at =
    let view : Part → Slice = λ (p : Part). p.slice.now in
    let s = x.slice.now in
    let inside : i < length (slices_of parts) = omega (arith, below, length-slices_of parts) in
    let here : get_or (slices_of parts) i s ≡ s = get_or-map view parts i x s below ∙ ap view (sym at) in
    let later : drop i (slices_of parts) ≡ s ∷ drop (i + 1) (slices_of parts) =
    drop_more (slices_of parts) i s inside ∙ ap (λ (y : Slice). y ∷ drop (i + 1) (slices_of parts)) here in
    let front : take (i + 1) (slices_of parts) ≡ take i (slices_of parts) ++ s ∷ [] =
    take_more (slices_of parts) i s inside ∙ ap (λ (y : Slice). take i (slices_of parts) ++ y ∷ []) here in
    ap (fit_in_order (take i (slices_of parts))) later
    ∙ ap (λ (l : List Slice). fits_before (take i (slices_of parts)) s && fit_in_order l (drop (i + 1) (slices_of parts))) (sym front)
    ∙ ap (λ (l : List Slice). fits_before l s && fit_in_order (take (i + 1) (slices_of parts)) (drop (i + 1) (slices_of parts))) (take-map view i parts)

pub fit_true : (parts : List Part) (i : ℕ) (x : Part) (here later : Bool) → i < length parts → x ≡ get_or parts i x → here ≡ fits_before (slices_of (take i parts)) x.slice.now → here ≡ true
    → later ≡ fit_in_order (take (i + 1) (slices_of parts)) (drop (i + 1) (slices_of parts)) → later ≡ fit_in_order (take i (slices_of parts)) (drop i (slices_of parts))
fit_true parts i x here later below at is h others =
    others ∙ sym (fit_step parts i x below at ∙ ap (λ (b : Bool). b && fit_in_order (take (i + 1) (slices_of parts)) (drop (i + 1) (slices_of parts))) (sym is ∙ h))

pub fit_false : (parts : List Part) (i : ℕ) (x : Part) (here : Bool) → i < length parts → x ≡ get_or parts i x → here ≡ fits_before (slices_of (take i parts)) x.slice.now → here ≡ false
    → here ≡ fit_in_order (take i (slices_of parts)) (drop i (slices_of parts))
fit_false parts i x here below at is h =
    h ∙ sym (fit_step parts i x below at ∙ ap (λ (b : Bool). b && fit_in_order (take (i + 1) (slices_of parts)) (drop (i + 1) (slices_of parts))) (sym is ∙ h))

-- ---- the last slice

pub ends_part : (parts before : List Part) (last : Part) → parts ≡ before ++ last ∷ [] → ends_with_gather [] (slices_of parts) ≡ list_any (receives_a_gather (slices_of before)) (operators last.slice.now.root)
ends_part parts before last is =
    ap (λ (l : List Part). ends_with_gather [] (slices_of l)) is
    ∙ ap (λ (l : List Slice). ends_with_gather [] l) (map-append (λ (p : Part). p.slice.now) before (last ∷ []))
    ∙ ends-last [] (slices_of before) last.slice.now

-- ---- counts

abbrev pub times : ℕ → List Op → ℕ
times wanted ops = count_by (λ j. j == wanted) (flat_map received ops)

pub once : (n : ℕ) → (counted n == 1) ≡ (n == 1)
once n = by (counted n == 1) (n == 1) refl refl
  where
    by : (a b : Bool) → (counted n == 1) ≡ a → (n == 1) ≡ b → a ≡ b
    by true true h k = refl
    by false false h k = refl
    by true false h k =
        let one : n ≡ 1 = omega (arith, eqb-true (counted n) 1 h) in
        let same : (n == 1) ≡ true = eq-eqb n 1 one in
        cc (same, k)
    by false true h k =
        let one : counted n ≡ 1 = omega (arith, eqb-true n 1 k) in
        let same : (counted n == 1) ≡ true = eq-eqb (counted n) 1 one in
        cc (same, h)

-- ---- numbers from one place up to another

from_here : (p : ℕ → Bool) (a b : ℕ) → a < b → list_all p (range_with_len a (b - a)) ≡ (p a && list_all p (range_with_len (a + 1) (b - (a + 1))))
from_here p a b below = ap (λ (n : ℕ). list_all p (range_with_len a n)) (let e : b - a ≡ suc (b - (a + 1)) = omega (arith, below) in e)

pub all_true : (p : ℕ → Bool) (a b : ℕ) (here later : Bool) → a < b → here ≡ p a → here ≡ true → later ≡ list_all p (range_with_len (a + 1) (b - (a + 1))) → later ≡ list_all p (range_with_len a (b - a))
all_true p a b here later below is h others = others ∙ sym (from_here p a b below ∙ ap (λ (t : Bool). t && list_all p (range_with_len (a + 1) (b - (a + 1)))) (sym is ∙ h))

pub all_false : (p : ℕ → Bool) (a b : ℕ) (here : Bool) → a < b → here ≡ p a → here ≡ false → here ≡ list_all p (range_with_len a (b - a))
all_false p a b here below is h = h ∙ sym (from_here p a b below ∙ ap (λ (t : Bool). t && list_all p (range_with_len (a + 1) (b - (a + 1)))) (sym is ∙ h))
