-- A skipped block has no row that passes.
use Rattle.std.proofs.Common.{◌≡◌, ℕ, zero, suc, ◌+◌, ◌-◌, ◌<◌, ◌≤◌, Bool, true, false, not, cond, nat_eq, All, List, [], ◌∷◌, ◌++◌, length, take, drop, map, Some, refl, sym, ap, subst, ◌∙◌, arith}
use Rattle.std.specs.Prelude.{◌&&◌, ◌||◌, fold, slice_get}
use Rattle.std.specs.List.{AllByRecursion, list_any, list_all}
use Rattle.std.specs.Ordering.{is_gt, is_lt}
use Rattle.std.proofs.lemmas.List.{take_at, drop_at, take-append-drop, drop-append-le, get_or_past}
use Rattle.std.proofs.lemmas.List.Elements.{All-from_recursion}
use Rattle.hq_value.specs.declared.value.Value.{Value}
use Rattle.hq_value.specs.declared.value.Value.TheVariants as variant
use Rattle.hq_value.specs.declared.kind.Kind.{Kind}
use Rattle.hq_value.specs.declared.kind.Kind.TheVariants as kind
use Rattle.hq_value.specs.Compare.{passes}
use Rattle.hq_value.specs.Kinds.{Fits}
use Rattle.hq_value.specs.Order.{value_cmp}
use Rattle.hq_block.specs.declared.bounds.Bounds.{Bounds}
use Rattle.hq_block.specs.declared.bounds.Bounds.TheVariants as bound
use Rattle.hq_block.specs.declared.head.Head.{Head}
use Rattle.hq_block.specs.declared.head.BlockHead.{BlockHead}
use Rattle.hq_block.specs.declared.skip.ColumnTest.{ColumnTest}
use Rattle.hq_block.specs.Row.{IsInRange, IsStorable}
use Rattle.hq_block.specs.Bounds.{is_null, value_at, with_some, with_value, range_of, column_bounds, bounds_from, bounds_of, bounds_bytes, greater, IsValue, IsRange, IsBound, AreBounds}
use Rattle.hq_block.specs.Block.{head_bytes, body_bytes, bounds_in, padded, IsBlock}
use Rattle.hq_block.specs.Heads.{IsHead, HeadIs, BoundsFollow}
use Rattle.hq_block.specs.Reading.{bounds_at}
use Rattle.hq_block.specs.Skipping.{passes_test, bound_excludes, excludes, skips}
use Rattle.hq_block.proofs.BlockLaws.{few_rows}
use Rattle.hq_block.proofs.Bounding.{bounds_again}
use Rattle.hq_block.proofs.Heads.{head_same, head_in_front}
use Rattle.hq_block.proofs.Lengths.{length-Fits}
use Rattle.hq_block.proofs.Numbers.{some_is}
use Rattle.hq_block.proofs.Padding.{value_at-nulls}
use Rattle.hq_block.proofs.Ranges.{Within, AllWithin, range_of-within, outside-fails, itself, lesser-below, greater-above}
use Rattle.hq_block.proofs.Sizes.{AreOfKind, AreFitFrom, fit-all}

-- the bounds of a column are bounds that it may have

-- each value of the column but NULL may stand in a row
abbrev AreValues : Kind → ℕ → List (List Value) → Type 0
AreValues k place rows = AllByRecursion (λ row. is_null (value_at row place) ≡ false → IsValue k (value_at row place)) rows

abbrev IsRanged : Kind → Bounds → Type 0
IsRanged k bound.Text = ⊥
IsRanged k bound.Empty = Unit {0}
IsRanged k (bound.Range least greatest) = IsRange k least greatest

chosen : (P : Value → Type 0) (c : Bool) (a b : Value) → P a → P b → P (cond c b a)
chosen P true a b pa pb = pb
chosen P false a b pa pb = pa

ranged-some : (k : Kind) (bounds : Bounds) (v : Value) → IsRanged k bounds → IsValue k v → IsRanged k (with_some bounds v)
ranged-some k bound.Text v is value = absurd is
ranged-some k bound.Empty v is value = record { low = value; high = value; ordered = itself v }
ranged-some k (bound.Range least greatest) v is value = record {
  low = chosen (IsValue k) (is_gt (value_cmp least v)) least v is.low value;
  high = chosen (IsValue k) (is_lt (value_cmp greatest v)) greatest v is.high value;
  ordered = lesser-below least v (greater greatest v) (greater-above greatest v least is.ordered);
}

ranged-value : (k : Kind) (bounds : Bounds) (v : Value) → IsRanged k bounds → (is_null v ≡ false → IsValue k v) → IsRanged k (with_value bounds v)
ranged-value k bounds v is value = by (is_null v) refl
  where
    by : (null : Bool) → is_null v ≡ null → IsRanged k (cond null bounds (with_some bounds v))
    by true e = is
    by false e = ranged-some k bounds v is (value e)

fold-ranged : (k : Kind) (place : ℕ) (rows : List (List Value)) (bounds : Bounds) → IsRanged k bounds → AreValues k place rows → IsRanged k (fold (λ bounds row. with_value bounds (value_at row place)) bounds rows)
fold-ranged k place [] bounds is values = is
fold-ranged k place (row ∷ rows) bounds is values = fold-ranged k place rows (with_value bounds (value_at row place)) (ranged-value k bounds (value_at row place) is values.0) values.1

ranged-bool : (b : Bounds) → IsRanged kind.Bool b → IsBound kind.Bool b
ranged-bool bound.Text is = is
ranged-bool bound.Empty is = is
ranged-bool (bound.Range l g) is = is

ranged-int : (b : Bounds) → IsRanged kind.Int b → IsBound kind.Int b
ranged-int bound.Text is = is
ranged-int bound.Empty is = is
ranged-int (bound.Range l g) is = is

column-is_bound : (k : Kind) (place : ℕ) (rows : List (List Value)) → AreValues k place rows → IsBound k (column_bounds k place rows)
column-is_bound kind.Text place rows values = tt
column-is_bound kind.Bool place rows values = ranged-bool (range_of place rows) (fold-ranged kind.Bool place rows bound.Empty tt values)
column-is_bound kind.Int place rows values = ranged-int (range_of place rows) (fold-ranged kind.Int place rows bound.Empty tt values)

-- a value of a row in range is in range
value-in_range : (row : List Value) (place : ℕ) → AllByRecursion IsInRange row → IsInRange (value_at row place)
value-in_range [] place all = tt
value-in_range (v ∷ row) zero all = all.0
value-in_range (v ∷ row) (suc place) all = value-in_range row place all.1

column-values : (kinds : List Kind) (k : Kind) (place : ℕ) (rows : List (List Value)) → AllByRecursion (IsStorable kinds) rows → AreOfKind k place rows → AreValues k place rows
column-values kinds k place [] ok are = tt
column-values kinds k place (row ∷ rows) ok are =
    (λ some. record { some = some; of_kind = are.0; in_range = value-in_range row place ok.0.in_range }, column-values kinds k place rows ok.1 are.1)

bounds-are_from : (all : List Kind) (place : ℕ) (kinds : List Kind) (rows : List (List Value)) → AllByRecursion (IsStorable all) rows → AreFitFrom place kinds rows → AreBounds kinds (bounds_from place kinds rows)
bounds-are_from all place [] rows ok fit = tt
bounds-are_from all place (k ∷ kinds) rows ok fit = (column-is_bound k place rows (column-values all k place rows ok fit.0), bounds-are_from all (suc place) kinds rows ok fit.1)

storable_fit : (kinds : List Kind) (rows : List (List Value)) → AllByRecursion (IsStorable kinds) rows → AllByRecursion (Fits kinds) rows
storable_fit kinds [] ok = tt
storable_fit kinds (row ∷ rows) ok = (ok.0.fits, storable_fit kinds rows ok.1)

pub bounds-are : (kinds : List Kind) (rows : List (List Value)) → AllByRecursion (IsStorable kinds) rows → AreBounds kinds (bounds_of kinds rows)
bounds-are kinds rows ok = bounds-are_from kinds 0 kinds rows ok (fit-all kinds rows (storable_fit kinds rows ok))

-- what a test says of a value within bounds
bound-sound : (test : ColumnTest) (b : Bounds) (v : Value) → (is_null v ≡ false → Within v b) → bound_excludes test (Some b) ≡ true → (not (is_null v) && passes test.compare (value_cmp v test.value)) ≡ false
bound-sound test b v within out = by (is_null v) within
  where
    some : (b : Bounds) → Within v b → bound_excludes test (Some b) ≡ true → passes test.compare (value_cmp v test.value) ≡ false
    some bound.Text in_it out = absurd in_it
    some bound.Empty in_it out = absurd in_it
    some (bound.Range least greatest) in_it out = outside-fails test.compare least greatest test.value v in_it.0 in_it.1 out

    by : (null : Bool) → (null ≡ false → Within v b) → (not null && passes test.compare (value_cmp v test.value)) ≡ false
    by true h = refl
    by false h = some b (h refl) out

-- each value of the row but NULL lies within the range of its column
abbrev RowWithin : List (List Value) → List Value → Type 0
RowWithin all row = (place : ℕ) → is_null (value_at row place) ≡ false → Within (value_at row place) (range_of place all)

swapped : (all rows : List (List Value)) → ((place : ℕ) → AllWithin place rows (range_of place all)) → AllByRecursion (RowWithin all) rows
swapped all [] h = tt
swapped all (row ∷ rows) h = (λ place. (h place).0, swapped all rows (λ place. (h place).1))

rows-within : (rows : List (List Value)) → AllByRecursion (RowWithin rows) rows
rows-within rows = swapped rows rows (λ place. range_of-within place rows)

-- a column that the block lacks has no value
missing : (row : List Value) (place : ℕ) → length row ≤ place → is_null (value_at row place) ≡ true
missing row place past = ap is_null (get_or_past row place variant.Null past)

column-sound : (test : ColumnTest) (k : Kind) (place : ℕ) (all : List (List Value)) (row : List Value) → RowWithin all row → bound_excludes test (Some (column_bounds k place all)) ≡ true → (not (is_null (value_at row place)) && passes test.compare (value_cmp (value_at row place) test.value)) ≡ false
column-sound test kind.Text place all row within out = cc
column-sound test kind.Bool place all row within out = bound-sound test (range_of place all) (value_at row place) (within place) out
column-sound test kind.Int place all row within out = bound-sound test (range_of place all) (value_at row place) (within place) out

columns-sound : (test : ColumnTest) (place : ℕ) (kinds : List Kind) (i : ℕ) (all : List (List Value)) (row : List Value) → length row ≡ place + length kinds → RowWithin all row
    → bound_excludes test (slice_get (bounds_from place kinds all) i) ≡ true → (not (is_null (value_at row (place + i))) && passes test.compare (value_cmp (value_at row (place + i)) test.value)) ≡ false
columns-sound test place [] i all row len within out =
    ap (λ (null : Bool). not null && passes test.compare (value_cmp (value_at row (place + i)) test.value)) (missing row (place + i) (omega (arith, len)))
columns-sound test place (k ∷ kinds) zero all row len within out =
    subst (λ (n : ℕ). (not (is_null (value_at row n)) && passes test.compare (value_cmp (value_at row n) test.value)) ≡ false) (let e : place ≡ place + 0 = omega arith in e) (column-sound test k place all row within out)
columns-sound test place (k ∷ kinds) (suc i) all row len within out =
    subst (λ (n : ℕ). (not (is_null (value_at row n)) && passes test.compare (value_cmp (value_at row n) test.value)) ≡ false) (let e : suc place + i ≡ place + suc i = omega arith in e)
    (columns-sound test (suc place) kinds i all row (omega (arith, len)) within out)

-- a test that excludes the block fails on each of its rows
test-sound : (test : ColumnTest) (kinds : List Kind) (all : List (List Value)) (row : List Value) → length row ≡ length kinds → RowWithin all row → excludes (bounds_of kinds all) test ≡ true → passes_test test row ≡ false
test-sound test kinds all row len within out =
    subst (λ (n : ℕ). (not (is_null (value_at row n)) && passes test.compare (value_cmp (value_at row n) test.value)) ≡ false) (let e : 0 + test.column ≡ test.column = omega arith in e) (columns-sound test 0 kinds test.column all row (omega (arith, len)) within out)

none-pass : (bounds : List Bounds) (row : List Value) (tests : List ColumnTest) → ((test : ColumnTest) → excludes bounds test ≡ true → passes_test test row ≡ false) → list_any (excludes bounds) tests ≡ true → list_all (λ test. passes_test test row) tests ≡ false
none-pass bounds row [] sound some = cc
none-pass bounds row (test ∷ tests) sound some = by (excludes bounds test) refl some (none-pass bounds row tests sound)
  where
    last : (a b : Bool) → b ≡ false → (a && b) ≡ false
    last true b e = e
    last false b e = refl

    by : (out : Bool) → excludes bounds test ≡ out → (out || list_any (excludes bounds) tests) ≡ true → (list_any (excludes bounds) tests ≡ true → list_all (λ test. passes_test test row) tests ≡ false)
        → (passes_test test row && list_all (λ test. passes_test test row) tests) ≡ false
    by true e h rest = ap (λ (b : Bool). b && list_all (λ test. passes_test test row) tests) (sound test e)
    by false e h rest = last (passes_test test row) (list_all (λ test. passes_test test row) tests) (rest h)

-- a row with NULLs behind it passes the same tests
padded-passes : (width : ℕ) (row : List Value) (tests : List ColumnTest) → list_all (λ test. passes_test test (padded width row)) tests ≡ list_all (λ test. passes_test test row) tests
padded-passes width row [] = refl
padded-passes width row (test ∷ tests) =
    λ i. (not (is_null (value_at-nulls row (width - length row) test.column i)) && passes test.compare (value_cmp (value_at-nulls row (width - length row) test.column i) test.value)) && padded-passes width row tests i

rows-fail : (width : ℕ) (kinds : List Kind) (all rows : List (List Value)) (tests : List ColumnTest) → AllByRecursion (IsStorable kinds) rows → AllByRecursion (RowWithin all) rows → list_any (excludes (bounds_of kinds all)) tests ≡ true
    → AllByRecursion (λ row. list_all (λ test. passes_test test row) tests ≡ false) (map (padded width) rows)
rows-fail width kinds all [] tests ok within out = tt
rows-fail width kinds all (row ∷ rows) tests ok within out =
    (padded-passes width row tests ∙ none-pass (bounds_of kinds all) row tests (λ test. test-sound test kinds all row (length-Fits kinds row ok.0.fits) within.0) out, rows-fail width kinds all rows tests ok.1 within.1 out)

any-of : (tests : List ColumnTest) (bounds : List Bounds) → skips tests bounds ≡ true → list_any (excludes bounds) tests ≡ true
any-of tests [] e = cc
any-of tests (b ∷ bounds) e = e

not-empty : (tests : List ColumnTest) (bounds : List Bounds) → skips tests bounds ≡ true → bounds ≡ [] → ⊥
not-empty tests [] e none = cc
not-empty tests (b ∷ bounds) e none = cc

-- the bounds that a head says are those of the block's rows
bounds-same : (kinds : List Kind) (found : List Bounds) (rows : List (List Value)) (front more body : List ℕ) → AllByRecursion (IsStorable kinds) rows → AreBounds kinds found → front ≡ bounds_bytes found → front ++ more ≡ bounds_bytes (bounds_of kinds rows) ++ body → found ≡ bounds_of kinds rows
bounds-same kinds found rows front more body ok are is same =
    let first : bounds_at kinds (front ++ more) ≡ Some (found, more) = ap (λ (l : List ℕ). bounds_at kinds (l ++ more)) is ∙ bounds_again kinds found more are in
    let second : bounds_at kinds (bounds_bytes (bounds_of kinds rows) ++ body) ≡ Some (bounds_of kinds rows, body) = bounds_again kinds (bounds_of kinds rows) body (bounds-are kinds rows ok) in
    ap (λ (p : List Bounds × List ℕ). p.0) (some_is (found, more) (bounds_of kinds rows, body) (sym first ∙ ap (bounds_at kinds) same ∙ second))

-- the head that a block begins with
pub block-head : (kinds : List Kind) (rows : List (List Value)) (bytes : List ℕ) (is : IsBlock kinds rows bytes) → IsHead is.head bytes
block-head kinds rows bytes is =
    let body : List ℕ = bounds_in is.head.version (take is.head.columns kinds) is.own ++ body_bytes is.own in
    record { rules = is.is.rules; row_count = few_rows is.head (take is.head.columns kinds) is.own bytes is.is; spelled = ap (take 16) is.is.spelled ∙ take_at (head_bytes is.head) body 16 refl }

pub skipped : (kinds : List Kind) (rows : List (List Value)) (bytes : List ℕ) (n : ℕ) (head : BlockHead) (tests : List ColumnTest) → IsBlock kinds rows bytes → HeadIs kinds head (take n bytes) → skips tests head.bounds ≡ true → All (λ row. list_all (λ test. passes_test test row) tests ≡ false) rows
skipped kinds rows bytes n found tests is says out =
    let in_front = head_in_front (take n bytes) (drop n bytes) says.head says.is in
    let begun : IsHead says.head bytes = subst (IsHead says.head) (take-append-drop n bytes) in_front.1 in
    let same : says.head ≡ is.head = head_same says.head is.head bytes begun (block-head kinds rows bytes is) in
    let follow : BoundsFollow (nat_eq is.head.version 2) (take is.head.columns kinds) found.bounds (drop 16 (take n bytes)) = subst (λ (h : Head). BoundsFollow (nat_eq h.version 2) (take h.columns kinds) found.bounds (drop 16 (take n bytes))) same says.bounds in
    let after : drop 16 bytes ≡ bounds_in is.head.version (take is.head.columns kinds) is.own ++ body_bytes is.own = ap (drop 16) is.is.spelled ∙ drop_at (head_bytes is.head) (bounds_in is.head.version (take is.head.columns kinds) is.own ++ body_bytes is.own) 16 refl in
    let split : drop 16 (take n bytes) ++ drop n bytes ≡ drop 16 bytes = sym (drop-append-le 16 (take n bytes) (drop n bytes) in_front.0) ∙ ap (drop 16) (take-append-drop n bytes) in
    by (nat_eq is.head.version 2) refl follow (split ∙ after)
  where
    by : (two : Bool) → nat_eq is.head.version 2 ≡ two → BoundsFollow two (take is.head.columns kinds) found.bounds (drop 16 (take n bytes)) → drop 16 (take n bytes) ++ drop n bytes ≡ bounds_in is.head.version (take is.head.columns kinds) is.own ++ body_bytes is.own
        → All (λ row. list_all (λ test. passes_test test row) tests ≡ false) rows
    by false e follow whole = absurd (not-empty tests found.bounds out follow)
    by true e follow whole =
        let kinds' : List Kind = take is.head.columns kinds in
        let written : bounds_in is.head.version kinds' is.own ≡ bounds_bytes (bounds_of kinds' is.own) = ap (λ (b : Bool). cond b (bounds_bytes (bounds_of kinds' is.own)) []) e in
        let same : found.bounds ≡ bounds_of kinds' is.own = bounds-same kinds' found.bounds is.own (drop 16 (take n bytes)) (drop n bytes) (body_bytes is.own) is.is.storable follow.0 follow.1 (whole ∙ ap (λ (l : List ℕ). l ++ body_bytes is.own) written) in
        let some : list_any (excludes (bounds_of kinds' is.own)) tests ≡ true = subst (λ (b : List Bounds). list_any (excludes b) tests ≡ true) same (any-of tests found.bounds out) in
        let fail = rows-fail (length kinds) kinds' is.own is.own tests is.is.storable (rows-within is.own) some in
        All-from_recursion (λ (row : List Value). list_all (λ test. passes_test test row) tests ≡ false) rows (subst (AllByRecursion (λ (row : List Value). list_all (λ test. passes_test test row) tests ≡ false)) (sym is.filled) fail)

-- a block with bounds is skipped where some test excludes it
pub some-bounds : (tests : List ColumnTest) (bounds : List Bounds) → 0 < length bounds → list_any (excludes bounds) tests ≡ skips tests bounds
some-bounds tests [] some = absurd (omega (arith, some))
some-bounds tests (b ∷ bounds) some = refl
