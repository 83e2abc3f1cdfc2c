-- The kinds of the columns that an operator gives.
--     op_kinds op        its output kinds; none where a column is out of range or a kind does not fit
use Rattle.std.specs.Prelude.{ℕ, Bool, true, false, ◌&&◌, List, ◌++◌, Option, Some, None, length, take, drop, slice_get, nat_le}
use Rattle.std.specs.List.{list_all}
use Rattle.hq_value.specs.declared.kind.Kind.{Kind}
use Rattle.hq_value.specs.declared.kind.Kind.TheVariants as kind
use Rattle.hq_algebra.specs.declared.expr.Expr.{Expr}
use Rattle.hq_algebra.specs.declared.expr.Expr.TheVariants as expr
use Rattle.hq_algebra.specs.declared.aggregate.Aggregate.{Aggregate}
use Rattle.hq_algebra.specs.declared.aggregate.Aggregate.TheVariants as agg
use Rattle.hq_algebra.specs.declared.op.SortKey.{SortKey}
use Rattle.hq_algebra.specs.declared.op.Op.{Op, Row_of-Op, end_of-Op, more_of-Op}
use Rattle.hq_algebra.specs.declared.op.Op.TheVariants as op
use Rattle.hq_algebra.specs.Rules.{are_within}
use Rattle.hq_algebra.specs.Kinds.{◌>>=◌, every, same_kinds, is_of, expr_kind, item_kind, some_if, aggregate_kind, layout}

-- the kinds of the columns at these places
abbrev pub keys_kinds : List Kind → List ℕ → Option (List Kind)
keys_kinds kinds keys = every (slice_get kinds) keys

abbrev pub items_kinds : List Kind → List Expr → Option (List Kind)
items_kinds kinds items = every (λ e. item_kind (expr_kind kinds e)) items

abbrev pub values_kinds : List Kind → List Aggregate → Option (List Kind)
values_kinds kinds aggregates = every (aggregate_kind kinds) aggregates

abbrev pub is_column : Expr → Bool
is_column (expr.Column place) = true
is_column _ = false

-- in a Final, a least or a greatest value tells its kind by a column of the input
abbrev pub tells_its_kind : Aggregate → Bool
tells_its_kind (agg.Min e) = is_column e
tells_its_kind (agg.Max e) = is_column e
tells_its_kind _ = true

abbrev pub filter_kinds : Expr → List Kind → Option (List Kind)
filter_kinds cond kinds = some_if (is_of kind.Bool (expr_kind kinds cond)) kinds

-- the left columns come first; the keys are equal in number and kinds
abbrev pub join_kinds : List ℕ → List ℕ → List Kind → List Kind → Option (List Kind)
join_kinds lk rk left right = do
  ls ← keys_kinds left lk
  rs ← keys_kinds right rk
  some_if (same_kinds ls rs) (left ++ right)

-- the keys, and the columns of the partial aggregates
abbrev pub partial_kinds : List ℕ → List Aggregate → List Kind → Option (List Kind)
partial_kinds keys aggregates kinds = do
  ks ← keys_kinds kinds keys
  columns ← layout kinds aggregates
  Some (ks ++ columns)

-- the columns after the keys are those of the partial aggregates
abbrev pub are_finals : List Kind → ℕ → List Aggregate → List Kind → Bool
are_finals kinds keys aggregates columns = list_all tells_its_kind aggregates && (nat_le keys (length kinds) && same_kinds columns (drop keys kinds))

-- the keys, and the values; the input's other columns are those of the partial aggregates
abbrev pub final_kinds : ℕ → List Aggregate → List Kind → Option (List Kind)
final_kinds keys aggregates kinds = do
  values ← values_kinds kinds aggregates
  columns ← layout kinds aggregates
  some_if (are_finals kinds keys aggregates columns) (take keys kinds ++ values)

abbrev pub sort_kinds : List SortKey → List Kind → Option (List Kind)
sort_kinds order kinds = some_if (are_within order (length kinds)) kinds

-- the output kinds of an operator, none where a column is out of range or a kind does not fit
abbrev mutual
  pub op_kinds : Op → Option (List Kind)
  op_kinds (op.Scan table kinds) = Some kinds
  op_kinds (op.Receive slice kinds) = Some kinds
  op_kinds (op.Filter' cond _ input) = kinds_of_input input >>= filter_kinds cond
  op_kinds (op.Project' items _ input) = kinds_of_input input >>= (λ kinds. items_kinds kinds items)
  op_kinds (op.Join' lk rk _ left _ right) = do
    ls ← kinds_of_input left
    rs ← kinds_of_input right
    join_kinds lk rk ls rs
  op_kinds (op.Partial' keys aggregates _ input) = kinds_of_input input >>= partial_kinds keys aggregates
  op_kinds (op.Final' keys aggregates _ input) = kinds_of_input input >>= final_kinds keys aggregates
  op_kinds (op.Distinct' _ input) = kinds_of_input input
  op_kinds (op.Sort' order limit _ input) = kinds_of_input input >>= sort_kinds order

  pub kinds_of_input : {m : _} → Row_of-Op m → Option (List Kind)
  kinds_of_input end_of-Op = None
  kinds_of_input (more_of-Op child rest) = op_kinds child
