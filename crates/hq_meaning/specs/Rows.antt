-- Rows, and what is done to lists of them.
--     pairs left right            each row of left beside each row of right
--     kept conds rows             those where every condition is true
--     listed items rows           the values of the items over each row
--     faults_in es rows           some expression faults over some row
--     firsts rows                 the first of equal rows
--     ordered order rows          by the keys, ties by row order
--     limited limit rows          so many of the first
use Rattle.std.specs.Prelude.{ℕ, Bool, not, List, [], ◌∷◌, ◌++◌, map, filter, flat_map, take, Option, Some, None, if◌then◌else◌}
use Rattle.std.specs.List.{list_all, list_any}
use Rattle.std.specs.Ordering.{is_eq, then_cmp, on, flip_args}
use Rattle.std.specs.declared.cmp.Ordering.{Ordering}
use Rattle.hq_value.specs.declared.value.Value.{Value}
use Rattle.hq_value.specs.Order.{value_cmp, row_cmp}
use Rattle.hq_value.specs.Sorting.{sorted_by}
use Rattle.hq_algebra.specs.declared.expr.Expr.{Expr}
use Rattle.hq_algebra.specs.declared.op.SortKey.{SortKey}
use Rattle.hq_algebra.specs.Eval.{column, value_at, faults_at, is_true_at}

-- the values of its columns
abbrev pub Row : Type 0
Row = List Value

-- each row of left beside each row of right, by left row and then by right row
abbrev pub pairs : List Row → List Row → List Row
pairs left right = flat_map (λ l. map (λ r. l ++ r) right) left

-- the rows where every condition is true
abbrev pub kept : List Expr → List Row → List Row
kept conds rows = filter (λ row. list_all (λ e. is_true_at e row) conds) rows

-- the values of the items over each row, NULL at a fault
abbrev pub listed : List Expr → List Row → List Row
listed items rows = map (λ row. map (λ e. value_at e row) items) rows

-- some expression faults over some row
abbrev pub faults_in : List Expr → List Row → Bool
faults_in es rows = list_any (λ row. list_any (λ e. faults_at e row) es) rows

-- they are equal; NULLs are equal here
abbrev pub same_row : Row → Row → Bool
same_row a b = is_eq (row_cmp a b)

-- the first of equal rows, in order
abbrev pub firsts : List Row → List Row
firsts [] = []
firsts (x ∷ xs) = x ∷ filter (λ y. not (same_row x y)) (firsts xs)

-- by one column: in value order, NULL last, or descending in its reverse, NULL first
abbrev pub key_cmp : SortKey → Row → Row → Ordering
key_cmp key = if key.descending then flip_args (on (λ row. column row key.column) value_cmp) else on (λ row. column row key.column) value_cmp

-- by the keys, the first before the others, and ties by row order
abbrev pub order_cmp : List SortKey → Row → Row → Ordering
order_cmp [] = row_cmp
order_cmp (key ∷ keys) = then_cmp (key_cmp key) (order_cmp keys)

abbrev pub ordered : List SortKey → List Row → List Row
ordered order rows = sorted_by (order_cmp order) rows

-- where there is a limit, so many of the first
abbrev pub limited : Option ℕ → List Row → List Row
limited None rows = rows
limited (Some n) rows = take n rows
