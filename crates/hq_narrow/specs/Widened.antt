-- Plans over sources of which only some columns are taken, over their tables.
--     columns_of n columns op            these columns of a table of n, by a Project where they are not all in order
--     taken_op kinds t above             the columns of a table under a condition, if there is one
--     widened kinds ts above op          an operator under a condition, if there is one, with each Scan of a source
--                                        replaced by its columns
--     widened_plan kinds ts plan         so with each slice
--     scans_fit kinds ts op              each Scan has the kinds of the columns that are taken of its source
--     are_few kinds ts s                 a slice has at most 64 operators so
--     HaveKinds kinds found ts vs        the columns that are taken of each source have the kinds of its number
use Rattle.std.specs.Prelude.{◌≡◌, ◌==◌, ℕ, suc, Bool, true, false, ◌&&◌, nat_le, List, [], ◌∷◌, map, length, Option, Some, None, if◌then◌else◌}
use Rattle.std.specs.List.{list_all, AllByRecursion}
use Rattle.hq_value.specs.declared.kind.Kind.{Kind}
use Rattle.hq_algebra.specs.declared.expr.Expr.{Expr}
use Rattle.hq_algebra.specs.declared.expr.Expr.TheVariants as expr
use Rattle.hq_algebra.specs.declared.op.Op.{Op, Row_of-Op, end_of-Op, more_of-Op}
use Rattle.hq_algebra.specs.declared.op.Op.TheVariants as op
use Rattle.hq_algebra.specs.declared.plan.Slice.{Slice}
use Rattle.hq_algebra.specs.declared.plan.Plan.{Plan}
use Rattle.hq_algebra.specs.Kinds.{same_kinds}
use Rattle.hq_algebra.specs.Operators.{keys_kinds}
use Rattle.hq_algebra.specs.Plans.{operators, is_short}
use Rattle.hq_laws.specs.Sources.{Source}
use Rattle.hq_laws.specs.Turned.{renamed}
use Rattle.hq_narrow.specs.declared.taken.Taken.{Taken}
use Rattle.hq_narrow.specs.Narrow.{taken_at, place_from}

-- the columns are all that follow the i-th one of n, in order
abbrev pub are_all_from : ℕ → ℕ → List ℕ → Bool
are_all_from i n [] = i == n
are_all_from i n (c ∷ columns) = (c == i) && are_all_from (suc i) n columns

-- the columns of a table of n columns. All of them in order are the table's rows as they stand
abbrev pub columns_of : ℕ → List ℕ → Op → Op
columns_of n columns input = if are_all_from 0 n columns then input else op.Project (map expr.Column columns) input

-- an operator under a condition, if there is one
abbrev pub under : Option Expr → Op → Op
under None input = input
under (Some cond) input = op.Filter cond input

-- a condition over the columns of a table, of one over those that are taken
abbrev pub full : (ℕ → List Kind) → Taken → Expr → Expr
full kinds t e = renamed (place_from t.columns (length (kinds t.table))) e

-- the columns of a table, at whose rows the condition is true, if there is one
abbrev pub taken_op : (ℕ → List Kind) → Taken → Option Expr → Op
taken_op kinds t None = columns_of (length (kinds t.table)) t.columns (op.Scan t.table (kinds t.table))
taken_op kinds t (Some cond) = columns_of (length (kinds t.table)) t.columns (op.Filter (full kinds t cond) (op.Scan t.table (kinds t.table)))

-- an operator under a condition, if there is one. Each Scan of a source is replaced by its columns, which stand above
-- the condition that is directly above it
abbrev mutual
  pub widened : (ℕ → List Kind) → List Taken → Option Expr → Op → Op
  widened kinds ts above (op.Scan v found) = taken_op kinds (taken_at ts v) above
  widened kinds ts above (op.Receive slice found) = under above (op.Receive slice found)
  widened kinds ts above (op.Filter' cond _ input) = under above (widened_in kinds ts (Some cond) input)
  widened kinds ts above (op.Project' items _ input) = under above (op.Project items (widened_in kinds ts None input))
  widened kinds ts above (op.Join' lk rk _ left _ right) = under above (op.Join lk rk (widened_in kinds ts None left) (widened_in kinds ts None right))
  widened kinds ts above (op.Partial' keys aggregates _ input) = under above (op.Partial keys aggregates (widened_in kinds ts None input))
  widened kinds ts above (op.Final' keys aggregates _ input) = under above (op.Final keys aggregates (widened_in kinds ts None input))
  widened kinds ts above (op.Distinct' _ input) = under above (op.Distinct (widened_in kinds ts None input))
  widened kinds ts above (op.Sort' order limit _ input) = under above (op.Sort order limit (widened_in kinds ts None input))

  pub widened_in : {m : _} → (ℕ → List Kind) → List Taken → Option Expr → Row_of-Op m → Op
  widened_in kinds ts above end_of-Op = op.Receive 0 []
  widened_in kinds ts above (more_of-Op child rest) = widened kinds ts above child

abbrev pub widened_slice : (ℕ → List Kind) → List Taken → Slice → Slice
widened_slice kinds ts s = record { out = s.out; root = widened kinds ts None s.root }

abbrev pub widened_plan : (ℕ → List Kind) → List Taken → Plan → Plan
widened_plan kinds ts plan = record { slices = map (widened_slice kinds ts) plan.slices }

-- these are the kinds of the columns that are taken
abbrev pub are_kinds : List Kind → Option (List Kind) → Bool
are_kinds found None = false
are_kinds found (Some kinds) = same_kinds found kinds

-- a Scan is of a source, whose table has few columns, with the kinds of those that are taken
abbrev pub scan_fits : (ℕ → List Kind) → List Taken → Op → Bool
scan_fits kinds ts (op.Scan v found) = is_short (kinds (taken_at ts v).table) && are_kinds found (keys_kinds (kinds (taken_at ts v).table) (taken_at ts v).columns)
scan_fits kinds ts _ = true

abbrev pub scans_fit : (ℕ → List Kind) → List Taken → Op → Bool
scans_fit kinds ts o = list_all (scan_fits kinds ts) (operators o)

-- a source with its tests over the columns that are taken, as the table with them over all its columns
abbrev pub full_source : (ℕ → List Kind) → List Taken → Source → Source
full_source kinds ts s = record { table = (taken_at ts s.table).table; tests = map (full kinds (taken_at ts s.table)) s.tests }

-- the columns that are taken of the sources of these numbers have the kinds that are found by these numbers
abbrev pub HaveKinds : (ℕ → List Kind) → (ℕ → List Kind) → List Taken → List ℕ → Type 0
HaveKinds kinds found ts vs = AllByRecursion (λ v. keys_kinds (kinds (taken_at ts v).table) (taken_at ts v).columns ≡ Some (found v)) vs

-- a slice has few operators where each Scan stands under the columns of its table
abbrev pub are_few : (ℕ → List Kind) → List Taken → Slice → Bool
are_few kinds ts s = nat_le (length (operators (widened kinds ts None s.root))) 64
