-- The values of a column lie from its least to its greatest.
use Rattle.std.proofs.Common.{◌≡◌, ◌⊎◌, ℕ, Bool, true, false, cond, List, [], ◌∷◌, refl, sym, ap, subst, ◌∙◌, inl, inr}
use Rattle.std.specs.Prelude.{◌&&◌, ◌||◌, fold}
use Rattle.std.specs.Ordering.{is_eq, is_ne, is_lt, is_le, is_gt, is_ge, ordering_reverse}
use Rattle.std.specs.declared.cmp.Ordering.{Ordering}
use Rattle.std.specs.declared.cmp.Ordering.TheVariants.{Less, Equal, Greater}
use Rattle.std.specs.List.{AllByRecursion}
use Rattle.std.proofs.lemmas.Cmp.{tied_itself, upto}
use Rattle.hq_value.specs.declared.value.Value.{Value}
use Rattle.hq_value.specs.declared.operator.CompareKind.{CompareKind}
use Rattle.hq_value.specs.declared.operator.CompareKind.TheVariants as compare
use Rattle.hq_value.specs.Compare.{passes}
use Rattle.hq_value.specs.Order.{value_cmp}
use Rattle.hq_value.proofs.Order.{value_total, value_exact}
use Rattle.hq_block.specs.declared.bounds.Bounds.{Bounds}
use Rattle.hq_block.specs.declared.bounds.Bounds.TheVariants as bound
use Rattle.hq_block.specs.Bounds.{is_null, value_at, lesser, greater, with_some, with_value, range_of}
use Rattle.hq_block.specs.Skipping.{is_outside}

-- a is at most b
abbrev pub AtMost : Value → Value → Type 0
AtMost a b = is_gt (value_cmp a b) ≡ false

gt_turned : (o p : Ordering) → o ≡ ordering_reverse p → is_gt o ≡ true → is_gt p ≡ false
gt_turned o Less e h = refl
gt_turned o Equal e h = refl
gt_turned o Greater e h = let u : is_gt (ordering_reverse Greater) ≡ true = sym (ap is_gt e) ∙ h in cc

lt_turned : (o p : Ordering) → o ≡ ordering_reverse p → is_lt o ≡ is_gt p
lt_turned o Less e = ap is_lt e
lt_turned o Equal e = ap is_lt e
lt_turned o Greater e = ap is_lt e

-- less is greater the other way round
less_is : (a b : Value) → is_lt (value_cmp a b) ≡ is_gt (value_cmp b a)
less_is a b = lt_turned (value_cmp a b) (value_cmp b a) (value_total.antisymm a b)

above : (a b : Value) → is_gt (value_cmp a b) ≡ true → AtMost b a
above a b h = gt_turned (value_cmp a b) (value_cmp b a) (value_total.antisymm a b) h

through : (a b c : Value) → AtMost a b → AtMost b c → AtMost a c
through a b c h i = upto value_total a b c h i

pub itself : (a : Value) → AtMost a a
itself a = ap is_gt (tied_itself value_total a)

pub lesser-below : (a b x : Value) → AtMost a x → AtMost (lesser a b) x
lesser-below a b x h = by (is_gt (value_cmp a b)) refl
  where
    by : (c : Bool) → is_gt (value_cmp a b) ≡ c → AtMost (cond c b a) x
    by true e = through b a x (above a b e) h
    by false e = h

lesser-new : (a b : Value) → AtMost (lesser a b) b
lesser-new a b = by (is_gt (value_cmp a b)) refl
  where
    by : (c : Bool) → is_gt (value_cmp a b) ≡ c → AtMost (cond c b a) b
    by true e = itself b
    by false e = e

pub greater-above : (a b x : Value) → AtMost x a → AtMost x (greater a b)
greater-above a b x h = by (is_lt (value_cmp a b)) refl
  where
    by : (c : Bool) → is_lt (value_cmp a b) ≡ c → AtMost x (cond c b a)
    by true e = through x a b h (above b a (sym (less_is a b) ∙ e))
    by false e = h

greater-new : (a b : Value) → AtMost b (greater a b)
greater-new a b = by (is_lt (value_cmp a b)) refl
  where
    by : (c : Bool) → is_lt (value_cmp a b) ≡ c → AtMost b (cond c b a)
    by true e = itself b
    by false e = sym (less_is a b) ∙ e

-- the value is not NULL, and lies within the bounds
abbrev pub Within : Value → Bounds → Type 0
Within x bound.Text = ⊥
Within x bound.Empty = ⊥
Within x (bound.Range least greatest) = AtMost least x × AtMost x greatest

with_some-keeps : (bounds : Bounds) (v x : Value) → Within x bounds → Within x (with_some bounds v)
with_some-keeps bound.Text v x within = absurd within
with_some-keeps bound.Empty v x within = absurd within
with_some-keeps (bound.Range least greatest) v x within = (lesser-below least v x within.0, greater-above greatest v x within.1)

with_value-keeps : (bounds : Bounds) (v x : Value) → Within x bounds → Within x (with_value bounds v)
with_value-keeps bounds v x within = by (is_null v)
  where
    by : (null : Bool) → Within x (cond null bounds (with_some bounds v))
    by true = within
    by false = with_some-keeps bounds v x within

fold-keeps : (place : ℕ) (rows : List (List Value)) (bounds : Bounds) (x : Value) → Within x bounds → Within x (fold (λ bounds row. with_value bounds (value_at row place)) bounds rows)
fold-keeps place [] bounds x within = within
fold-keeps place (row ∷ rows) bounds x within = fold-keeps place rows (with_value bounds (value_at row place)) x (with_value-keeps bounds (value_at row place) x within)

-- bounds that are not those of texts
abbrev NoText : Bounds → Type 0
NoText bound.Text = ⊥
NoText bound.Empty = Unit {0}
NoText (bound.Range least greatest) = Unit {0}

with_some-new : (bounds : Bounds) (v : Value) → NoText bounds → Within v (with_some bounds v)
with_some-new bound.Text v is = absurd is
with_some-new bound.Empty v is = (itself v, itself v)
with_some-new (bound.Range least greatest) v is = (lesser-new least v, greater-new greatest v)

with_value-text : (bounds : Bounds) (v : Value) → NoText bounds → NoText (with_value bounds v)
with_value-text bounds v is = by (is_null v) bounds is
  where
    by : (null : Bool) (bounds : Bounds) → NoText bounds → NoText (cond null bounds (with_some bounds v))
    by true bounds is = is
    by false bound.Text is = absurd is
    by false bound.Empty is = tt
    by false (bound.Range least greatest) is = tt

-- each value of the column but NULL lies within
abbrev pub AllWithin : ℕ → List (List Value) → Bounds → Type 0
AllWithin place rows bounds = AllByRecursion (λ row. is_null (value_at row place) ≡ false → Within (value_at row place) bounds) rows

fold-within : (place : ℕ) (rows : List (List Value)) (bounds : Bounds) → NoText bounds → AllWithin place rows (fold (λ bounds row. with_value bounds (value_at row place)) bounds rows)
fold-within place [] bounds is = tt
fold-within place (row ∷ rows) bounds is =
    let v : Value = value_at row place in
    let first : is_null v ≡ false → Within v (with_value bounds v) = λ some. rw some (with_some-new bounds v is) in
    (λ some. fold-keeps place rows (with_value bounds v) v (first some), fold-within place rows (with_value bounds v) (with_value-text bounds v is))

pub range_of-within : (place : ℕ) (rows : List (List Value)) → AllWithin place rows (range_of place rows)
range_of-within place rows = fold-within place rows bound.Empty tt

-- what an order says of the others
eq_is : (o : Ordering) → is_eq o ≡ true → o ≡ Equal
eq_is Less h = cc
eq_is Equal h = refl
eq_is Greater h = cc

not_eq : (o : Ordering) → (is_eq o ≡ true → ⊥) → is_eq o ≡ false
not_eq Less h = refl
not_eq Equal h = absurd (h refl)
not_eq Greater h = refl

not_ne : (o : Ordering) → is_eq o ≡ true → is_ne o ≡ false
not_ne Less h = cc
not_ne Equal h = refl
not_ne Greater h = cc

le_fails : (o : Ordering) → (is_gt o ≡ false → ⊥) → is_le o ≡ false
le_fails Less h = absurd (h refl)
le_fails Equal h = absurd (h refl)
le_fails Greater h = refl

le_is : (o : Ordering) → is_le o ≡ true → is_gt o ≡ false
le_is Less h = refl
le_is Equal h = refl
le_is Greater h = cc

ge_is : (o : Ordering) → is_ge o ≡ true → is_lt o ≡ false
ge_is Less h = cc
ge_is Equal h = refl
ge_is Greater h = refl

ge_fails : (o : Ordering) → is_lt o ≡ true → is_ge o ≡ false
ge_fails Less h = refl
ge_fails Equal h = cc
ge_fails Greater h = cc

lt_or : (b : Bool) → (b ≡ false → ⊥) → b ≡ true
lt_or true h = refl
lt_or false h = absurd (h refl)

either : (a b : Bool) → (a || b) ≡ true → (a ≡ true) ⊎ (b ≡ true)
either true b e = inl refl
either false b e = inr e

both : (a b : Bool) → (a && b) ≡ true → (a ≡ true) × (b ≡ true)
both true b e = (refl, e)
both false b e = cc

-- what is below a value that is below is no equal
apart : (a b : Value) → is_lt (value_cmp a b) ≡ true → AtMost b a → ⊥
apart a b less at_most = let e : is_gt (value_cmp b a) ≡ true = sym (less_is a b) ∙ less in cc

pub outside-fails : (c : CompareKind) (least greatest value x : Value) → AtMost least x → AtMost x greatest → is_outside c least greatest value ≡ true → passes c (value_cmp x value) ≡ false
outside-fails compare.Equal least greatest value x low high out = not_eq (value_cmp x value) (λ same. by (value_exact x value (eq_is (value_cmp x value) same)) (either (is_lt (value_cmp value least)) (is_gt (value_cmp value greatest)) out))
  where
    by : x ≡ value → (is_lt (value_cmp value least) ≡ true) ⊎ (is_gt (value_cmp value greatest) ≡ true) → ⊥
    by e (inl less) = apart value least less (subst (λ (v : Value). AtMost least v) e low)
    by e (inr more) = let h : is_gt (value_cmp value greatest) ≡ false = subst (λ (v : Value). AtMost v greatest) e high in cc
outside-fails compare.NotEqual least greatest value x low high out =
    let ends = both (is_eq (value_cmp least value)) (is_eq (value_cmp greatest value)) out in
    let l : least ≡ value = value_exact least value (eq_is (value_cmp least value) ends.0) in
    let g : greatest ≡ value = value_exact greatest value (eq_is (value_cmp greatest value) ends.1) in
    let from : AtMost value x = subst (λ (v : Value). AtMost v x) l low in
    let to : AtMost x value = subst (λ (v : Value). AtMost x v) g high in
    not_ne (value_cmp x value) (tie (value_cmp x value) to (less_is x value ∙ from))
  where
    tie : (o : Ordering) → is_gt o ≡ false → is_lt o ≡ false → is_eq o ≡ true
    tie Less h i = cc
    tie Equal h i = refl
    tie Greater h i = cc
outside-fails compare.Less least greatest value x low high out =
    let from : AtMost value least = sym (less_is least value) ∙ ge_is (value_cmp least value) out in
    less_is x value ∙ through value least x from low
outside-fails compare.AtMost least greatest value x low high out =
    le_fails (value_cmp x value) (λ at_most. let h : is_gt (value_cmp least value) ≡ false = through least x value low at_most in cc)
outside-fails compare.Greater least greatest value x low high out = through x greatest value high (le_is (value_cmp greatest value) out)
outside-fails compare.AtLeast least greatest value x low high out =
    ge_fails (value_cmp x value) (lt_or (is_lt (value_cmp x value)) (λ e. apart greatest value out (through value x greatest (sym (less_is x value) ∙ e) high)))
