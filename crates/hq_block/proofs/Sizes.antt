-- How long bounds are.
use Rattle.std.proofs.Common.{◌≡◌, ℕ, zero, suc, ◌+◌, ◌<◌, ◌≤◌, Bool, true, false, not, cond, List, [], ◌∷◌, ◌++◌, length, drop, get_or, refl, sym, ap, subst, ◌∙◌, arith}
use Rattle.std.specs.Prelude.{◌||◌, fold}
use Rattle.std.specs.List.{AllByRecursion}
use Rattle.std.specs.Ordering.{is_gt, is_lt}
use Rattle.std.proofs.lemmas.List.{length-append, drop_more}
use Rattle.hq_value.specs.declared.value.Value.{Value}
use Rattle.hq_value.specs.declared.value.Value.TheVariants as variant
use Rattle.hq_value.specs.declared.kind.Kind.{Kind}
use Rattle.hq_value.specs.declared.kind.Kind.TheVariants as kind
use Rattle.hq_value.specs.Kinds.{IsOfKind, Fits}
use Rattle.hq_value.specs.Order.{value_cmp}
use Rattle.hq_block.specs.declared.bounds.Bounds.{Bounds}
use Rattle.hq_block.specs.declared.bounds.Bounds.TheVariants as bound
use Rattle.hq_block.specs.Row.{value_bytes}
use Rattle.hq_block.specs.Bounds.{is_null, value_at, with_some, with_value, range_of, has_value, bound_size, column_bounds, bounds_from, bound_bytes, bounds_bytes}

-- the values take w bytes each
abbrev IsSized : ℕ → Bounds → Type 0
IsSized w bound.Text = ⊥
IsSized w bound.Empty = Unit {0}
IsSized w (bound.Range least greatest) = (length (value_bytes least) ≡ w) × (length (value_bytes greatest) ≡ w)

abbrev is_range : Bounds → Bool
is_range bound.Text = false
is_range bound.Empty = false
is_range (bound.Range least greatest) = true

chosen : (P : Value → Type 0) (c : Bool) (a b : Value) → P a → P b → P (cond c b a)
chosen P true a b pa pb = pb
chosen P false a b pa pb = pa

sized-some : (w : ℕ) (bounds : Bounds) (v : Value) → IsSized w bounds → length (value_bytes v) ≡ w → IsSized w (with_some bounds v)
sized-some w bound.Text v is len = absurd is
sized-some w bound.Empty v is len = (len, len)
sized-some w (bound.Range least greatest) v is len =
    (chosen (λ x. length (value_bytes x) ≡ w) (is_gt (value_cmp least v)) least v is.0 len, chosen (λ x. length (value_bytes x) ≡ w) (is_lt (value_cmp greatest v)) greatest v is.1 len)

sized-value : (w : ℕ) (bounds : Bounds) (v : Value) → IsSized w bounds → (is_null v ≡ false → length (value_bytes v) ≡ w) → IsSized w (with_value bounds v)
sized-value w bounds v is len = by (is_null v) refl
  where
    by : (null : Bool) → is_null v ≡ null → IsSized w (cond null bounds (with_some bounds v))
    by true e = is
    by false e = sized-some w bounds v is (len e)

range-value : (w : ℕ) (bounds : Bounds) (v : Value) → IsSized w bounds → is_range (with_value bounds v) ≡ (is_range bounds || not (is_null v))
range-value w bounds v is = by (is_null v) bounds is
  where
    by : (null : Bool) (bounds : Bounds) → IsSized w bounds → is_range (cond null bounds (with_some bounds v)) ≡ (is_range bounds || not null)
    by null bound.Text is = absurd is
    by true bound.Empty is = refl
    by false bound.Empty is = refl
    by true (bound.Range l g) is = refl
    by false (bound.Range l g) is = refl

or-assoc : (a b c : Bool) → ((a || b) || c) ≡ (a || (b || c))
or-assoc true b c = refl
or-assoc false b c = refl

-- each value of the column but NULL takes w bytes
abbrev AreWide : ℕ → ℕ → List (List Value) → Type 0
AreWide w place rows = AllByRecursion (λ row. is_null (value_at row place) ≡ false → length (value_bytes (value_at row place)) ≡ w) rows

fold-sized : (w place : ℕ) (rows : List (List Value)) (bounds : Bounds) → IsSized w bounds → AreWide w place rows → IsSized w (fold (λ bounds row. with_value bounds (value_at row place)) bounds rows)
fold-sized w place [] bounds is wide = is
fold-sized w place (row ∷ rows) bounds is wide = fold-sized w place rows (with_value bounds (value_at row place)) (sized-value w bounds (value_at row place) is wide.0) wide.1

fold-range : (w place : ℕ) (rows : List (List Value)) (bounds : Bounds) → IsSized w bounds → AreWide w place rows → is_range (fold (λ bounds row. with_value bounds (value_at row place)) bounds rows) ≡ (is_range bounds || has_value place rows)
fold-range w place [] bounds is wide = by (is_range bounds)
  where
    by : (b : Bool) → b ≡ (b || false)
    by true = refl
    by false = refl
fold-range w place (row ∷ rows) bounds is wide =
    let v : Value = value_at row place in
    fold-range w place rows (with_value bounds v) (sized-value w bounds v is wide.0) wide.1
    ∙ ap (λ (b : Bool). b || has_value place rows) (range-value w bounds v is)
    ∙ or-assoc (is_range bounds) (not (is_null v)) (has_value place rows)

length-bound : (w : ℕ) (bounds : Bounds) → IsSized w bounds → length (bound_bytes bounds) ≡ cond (is_range bounds) (1 + (w + w)) 1
length-bound w bound.Text is = absurd is
length-bound w bound.Empty is = refl
length-bound w (bound.Range least greatest) is = omega (arith, is.0, is.1, length-append (value_bytes least) (value_bytes greatest))

length-range : (w place : ℕ) (rows : List (List Value)) → AreWide w place rows → length (bound_bytes (range_of place rows)) ≡ cond (has_value place rows) (1 + (w + w)) 1
length-range w place rows wide =
    length-bound w (range_of place rows) (fold-sized w place rows bound.Empty tt wide) ∙ ap (λ (b : Bool). cond b (1 + (w + w)) 1) (fold-range w place rows bound.Empty tt wide)

bool_wide : (v : Value) → IsOfKind kind.Bool v → is_null v ≡ false → length (value_bytes v) ≡ 1
bool_wide variant.Null is some = cc
bool_wide (variant.Bool true) is some = refl
bool_wide (variant.Bool false) is some = refl
bool_wide (variant.Int n) is some = absurd is
bool_wide (variant.Text t) is some = absurd is

int_wide : (v : Value) → IsOfKind kind.Int v → is_null v ≡ false → length (value_bytes v) ≡ 8
int_wide variant.Null is some = cc
int_wide (variant.Bool b) is some = absurd is
int_wide (variant.Int n) is some = refl
int_wide (variant.Text t) is some = absurd is

-- each value of the column is of its kind
abbrev pub AreOfKind : Kind → ℕ → List (List Value) → Type 0
AreOfKind k place rows = AllByRecursion (λ row. IsOfKind k (value_at row place)) rows

bools_wide : (place : ℕ) (rows : List (List Value)) → AreOfKind kind.Bool place rows → AreWide 1 place rows
bools_wide place [] are = tt
bools_wide place (row ∷ rows) are = (bool_wide (value_at row place) are.0, bools_wide place rows are.1)

ints_wide : (place : ℕ) (rows : List (List Value)) → AreOfKind kind.Int place rows → AreWide 8 place rows
ints_wide place [] are = tt
ints_wide place (row ∷ rows) are = (int_wide (value_at row place) are.0, ints_wide place rows are.1)

pub length-column : (k : Kind) (place : ℕ) (rows : List (List Value)) → AreOfKind k place rows → length (bound_bytes (column_bounds k place rows)) ≡ bound_size k (has_value place rows)
length-column kind.Text place rows are = refl
length-column kind.Bool place rows are = length-range 1 place rows (bools_wide place rows are)
length-column kind.Int place rows are = length-range 8 place rows (ints_wide place rows are)

-- the value in a column of a row that fits is of its kind
fits-kind : (kinds : List Kind) (row : List Value) (i : ℕ) (d : Kind) → Fits kinds row → i < length kinds → IsOfKind (get_or kinds i d) (value_at row i)
fits-kind [] row i d fits below = absurd (omega arith)
fits-kind (k ∷ kinds) [] i d fits below = absurd fits
fits-kind (k ∷ kinds) (v ∷ row) zero d fits below = fits.0
fits-kind (k ∷ kinds) (v ∷ row) (suc i) d fits below = fits-kind kinds row i d fits.1 (omega (arith, below))

pub rows-of_kind : (kinds : List Kind) (rows : List (List Value)) (i : ℕ) (d : Kind) → AllByRecursion (Fits kinds) rows → i < length kinds → AreOfKind (get_or kinds i d) i rows
rows-of_kind kinds [] i d fit below = tt
rows-of_kind kinds (row ∷ rows) i d fit below = (fits-kind kinds row i d fit.0 below, rows-of_kind kinds rows i d fit.1 below)

-- the bounds of the columns from i on are those of column i and of the others
pub bounds_from-step : (kinds : List Kind) (i : ℕ) (d : Kind) (rows : List (List Value)) → i < length kinds
    → bounds_bytes (bounds_from i (drop i kinds) rows) ≡ bound_bytes (column_bounds (get_or kinds i d) i rows) ++ bounds_bytes (bounds_from (i + 1) (drop (i + 1) kinds) rows)
bounds_from-step kinds i d rows below =
    ap (λ (ks : List Kind). bounds_bytes (bounds_from i ks rows)) (drop_more kinds i d below)
    ∙ ap (λ (n : ℕ). bound_bytes (column_bounds (get_or kinds i d) i rows) ++ bounds_bytes (bounds_from n (drop (i + 1) kinds) rows)) (let e : suc i ≡ i + 1 = omega arith in e)

-- the columns of rows that fit, from a place on
abbrev pub AreFitFrom : ℕ → List Kind → List (List Value) → Type 0
AreFitFrom place [] rows = Unit {0}
AreFitFrom place (k ∷ kinds) rows = AreOfKind k place rows × AreFitFrom (suc place) kinds rows

abbrev pub bounds_size : ℕ → List Kind → List (List Value) → ℕ
bounds_size place [] rows = 0
bounds_size place (k ∷ kinds) rows = bound_size k (has_value place rows) + bounds_size (suc place) kinds rows

pub length-bounds : (place : ℕ) (kinds : List Kind) (rows : List (List Value)) → AreFitFrom place kinds rows → length (bounds_bytes (bounds_from place kinds rows)) ≡ bounds_size place kinds rows
length-bounds place [] rows are = refl
length-bounds place (k ∷ kinds) rows are =
    length-append (bound_bytes (column_bounds k place rows)) (bounds_bytes (bounds_from (suc place) kinds rows)) ∙ (λ i. length-column k place rows are.0 i + length-bounds (suc place) kinds rows are.1 i)

fit-from : (place : ℕ) (all kinds : List Kind) (rows : List (List Value)) → kinds ≡ drop place all → AllByRecursion (Fits all) rows → AreFitFrom place kinds rows
fit-from place all [] rows is fit = tt
fit-from place all (k ∷ kinds) rows is fit =
    let more : place < length all = some place all k kinds is in
    let parts : k ∷ kinds ≡ get_or all place k ∷ drop (place + 1) all = is ∙ drop_more all place k more in
    let first : k ≡ get_or all place k = cc in
    let rest : kinds ≡ drop (place + 1) all = cc in
    let next : kinds ≡ drop (suc place) all = rest ∙ ap (λ (n : ℕ). drop n all) (let e : place + 1 ≡ suc place = omega arith in e) in
    (subst (λ (x : Kind). AreOfKind x place rows) (sym first) (rows-of_kind all rows place k fit more), fit-from (suc place) all kinds rows next fit)
  where
    some : (place : ℕ) (all : List Kind) (k : Kind) (kinds : List Kind) → k ∷ kinds ≡ drop place all → place < length all
    some zero [] k kinds e = cc
    some zero (x ∷ all) k kinds e = omega arith
    some (suc place) [] k kinds e = cc
    some (suc place) (x ∷ all) k kinds e = omega (arith, some place all k kinds e)

pub fit-all : (kinds : List Kind) (rows : List (List Value)) → AllByRecursion (Fits kinds) rows → AreFitFrom 0 kinds rows
fit-all kinds rows fit = fit-from 0 kinds kinds rows refl fit

-- more rows have no fewer values
has_value-more : (place : ℕ) (rows others : List (List Value)) → has_value place rows ≡ true → has_value place (rows ++ others) ≡ true
has_value-more place [] others e = cc
has_value-more place (row ∷ rows) others e = by (not (is_null (value_at row place))) (has_value place rows) (has_value-more place rows others) e
  where
    by : (a b : Bool) → (b ≡ true → has_value place (rows ++ others) ≡ true) → (a || b) ≡ true → (a || has_value place (rows ++ others)) ≡ true
    by true b rest e = refl
    by false b rest e = rest e

size-more : (k : Kind) (a b : Bool) → (a ≡ true → b ≡ true) → bound_size k a ≤ bound_size k b
size-more kind.Text a b h = omega arith
size-more kind.Bool true true h = omega arith
size-more kind.Bool true false h = let e : false ≡ true = h refl in cc
size-more kind.Bool false true h = omega arith
size-more kind.Bool false false h = omega arith
size-more kind.Int true true h = omega arith
size-more kind.Int true false h = let e : false ≡ true = h refl in cc
size-more kind.Int false true h = omega arith
size-more kind.Int false false h = omega arith

pub bounds_size-more : (place : ℕ) (kinds : List Kind) (rows others : List (List Value)) → bounds_size place kinds rows ≤ bounds_size place kinds (rows ++ others)
bounds_size-more place [] rows others = omega arith
bounds_size-more place (k ∷ kinds) rows others =
    omega (arith, size-more k (has_value place rows) (has_value place (rows ++ others)) (has_value-more place rows others), bounds_size-more (suc place) kinds rows others)
