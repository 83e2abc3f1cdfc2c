-- What the seven operators give of lists of rows, and where an evaluation in them faults. Where one faults, its
-- value stands as NULL in the list. The other four evaluate nothing that can fault.
--     filtered cond rows            the rows where the condition is true
--     projected items rows          the values of the items; project_faults
--     joined lk rk left right       the pairs whose keys are all equal and not NULL
--     partial keys as rows          each group's key and the columns of each aggregate; partial_faults
--     final n as rows               each group's key, of n columns, and the value of each aggregate; final_faults
--     distinct rows                 the first of equal rows
--     sorted order limit rows       by the keys, ties by row order, and so many of the first
use Rattle.std.specs.Prelude.{ℕ, ◌+◌, Bool, true, false, ◌&&◌, ◌||◌, List, [], ◌∷◌, ◌++◌, map, filter, flat_map, take, Option, if◌then◌else◌}
use Rattle.std.specs.List.{list_any}
use Rattle.std.specs.Ordering.{is_eq}
use Rattle.hq_value.specs.declared.value.Value.{Value}
use Rattle.hq_value.specs.Order.{value_cmp}
use Rattle.hq_algebra.specs.declared.expr.Expr.{Expr}
use Rattle.hq_algebra.specs.declared.aggregate.Aggregate.{Aggregate}
use Rattle.hq_algebra.specs.declared.aggregate.Aggregate.TheVariants as agg
use Rattle.hq_algebra.specs.declared.op.SortKey.{SortKey}
use Rattle.hq_algebra.specs.Steps.{is_null}
use Rattle.hq_algebra.specs.Eval.{column, is_true_at}
use Rattle.hq_meaning.specs.Rows.{Row, listed, faults_in, firsts, ordered, limited}
use Rattle.hq_meaning.specs.Aggregates.{added, over, exact, leaves_64, arguments_fault}
use Rattle.hq_meaning.specs.Groups.{key_of, keys_found, group_keys, members}
use Rattle.hq_meaning.specs.Halves.{halves, whole}

-- Filter: the rows where the condition is true
abbrev pub filtered : Expr → List Row → List Row
filtered cond rows = filter (is_true_at cond) rows

-- Project: the values of the items over each row
abbrev pub projected : List Expr → List Row → List Row
projected = listed

abbrev pub project_faults : List Expr → List Row → Bool
project_faults = faults_in

-- two values are equal, and neither is NULL
abbrev pub meets : Value → Value → Bool
meets a b = if is_null a then false else is_eq (value_cmp a b)

-- the keys of two rows are all equal and not NULL
abbrev pub matches : List ℕ → List ℕ → Row → Row → Bool
matches [] [] l r = true
matches (i ∷ is) (j ∷ js) l r = meets (column l i) (column r j) && matches is js l r
matches _ _ l r = false

-- a left row beside each right row that it matches
abbrev pub beside : List ℕ → List ℕ → List Row → Row → List Row
beside lk rk right l = map (λ r. l ++ r) (filter (matches lk rk l) right)

-- Join: the pairs whose keys match, by left row and then by right row; without keys all pairs
abbrev pub joined : List ℕ → List ℕ → List Row → List Row → List Row
joined lk rk left right = flat_map (beside lk rk right) left

-- the columns of a partial aggregate: a sum is two halves, any other one value
abbrev pub columns_of : Aggregate → Value → List Value
columns_of (agg.Sum e) v = halves v
columns_of a v = exact a v ∷ []

-- how many they are
abbrev pub width : Aggregate → ℕ
width (agg.Sum e) = 2
width _ = 1

-- what a row of partial aggregates adds to one whose columns begin at a place, NULL for nothing
abbrev pub read : Aggregate → ℕ → Row → Value
read (agg.Sum e) at row = whole (column row at) (column row (at + 1))
read _ at row = column row at

abbrev pub partial_row : List ℕ → List Aggregate → List Row → Row → Row
partial_row keys aggs rows k = k ++ flat_map (λ a. columns_of a (over a (map (added a) (members (key_of keys) k rows)))) aggs

-- Partial: each group's key and the columns of each aggregate, by first appearance. A count and the high half of a
-- sum are numbers of any size here
abbrev pub partial : List ℕ → List Aggregate → List Row → List Row
partial keys aggs rows = map (partial_row keys aggs rows) (group_keys keys rows)

abbrev pub partial_faults : List Aggregate → List Row → Bool
partial_faults = arguments_fault

-- what an aggregate whose columns begin at a place comes to over rows of partial aggregates
abbrev pub final_value : Aggregate → ℕ → List Row → Value
final_value a at rows = exact a (over a (map (read a at) rows))

abbrev pub final_values : List Aggregate → ℕ → List Row → List Value
final_values [] at rows = []
final_values (a ∷ aggs) at rows = final_value a at rows ∷ final_values aggs (at + width a) rows

abbrev pub final_row : ℕ → List Aggregate → List Row → Row → Row
final_row n aggs rows k = k ++ final_values aggs n (members (take n) k rows)

-- Final: the groups by the first n columns, by first appearance: the key, and the value of each aggregate
abbrev pub final : ℕ → List Aggregate → List Row → List Row
final n aggs rows = map (final_row n aggs rows) (keys_found n (take n) rows)

abbrev pub value_leaves : List Aggregate → ℕ → List Row → Bool
value_leaves [] at rows = false
value_leaves (a ∷ aggs) at rows = leaves_64 a (final_value a at rows) || value_leaves aggs (at + width a) rows

-- a Count or a Sum of some group is no number of 64 bits
abbrev pub final_faults : ℕ → List Aggregate → List Row → Bool
final_faults n aggs rows = list_any (λ k. value_leaves aggs n (members (take n) k rows)) (keys_found n (take n) rows)

-- Distinct: the first of equal rows
abbrev pub distinct : List Row → List Row
distinct = firsts

-- Sort: by the keys, ties by row order, and where there is a limit, so many of the first
abbrev pub sorted : List SortKey → Option ℕ → List Row → List Row
sorted order limit rows = limited limit (ordered order rows)
