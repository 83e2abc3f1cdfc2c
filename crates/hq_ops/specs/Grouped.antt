-- What partial and final aggregates read.
--     IsPartial a c, ArePartial as cs     what a partial aggregate reads, and the same of several
--     final_column a at                   what an aggregate reads whose columns begin at a place
--     final_columns as at                 and what several read, one behind the other
use Rattle.std.specs.Prelude.{◌≡◌, ℕ, ◌+◌, false, List, [], ◌∷◌, map}
use Rattle.hq_algebra.specs.declared.aggregate.Aggregate.{Aggregate}
use Rattle.hq_algebra.specs.declared.aggregate.Aggregate.TheVariants as agg
use Rattle.hq_meaning.specs.Rows.{Row}
use Rattle.hq_meaning.specs.Aggregates.{added, over, argument_faults}
use Rattle.hq_meaning.specs.Operators.{columns_of, width}
use Rattle.hq_ops.specs.declared.best.Extreme.TheVariants as extreme
use Rattle.hq_ops.specs.declared.column.Column.{Column}
use Rattle.hq_ops.specs.declared.column.Column.TheVariants as reads_of
use Rattle.hq_ops.specs.Columns.{reads_fault}
use Rattle.hq_ops.specs.Gathering.{given_over, leaves_over}

-- a column reads what a partial aggregate needs: what that comes to stands in the aggregate's columns
pub record IsPartial (a : Aggregate) (c : Column) : Type 0 where
  pub gives : (rows : List Row) → given_over rows c ≡ columns_of a (over a (map (added a) rows))
  pub faults : (row : Row) → reads_fault c row ≡ argument_faults a row
  pub never_leaves : (rows : List Row) → leaves_over rows c ≡ false

-- and the same of several
abbrev pub ArePartial : List Aggregate → List Column → Type 0
ArePartial [] [] = Unit {0}
ArePartial (a ∷ aggs) (c ∷ columns) = IsPartial a c × ArePartial aggs columns
ArePartial _ _ = ⊥

-- what an aggregate reads whose columns begin at a place
abbrev pub final_column : Aggregate → ℕ → Column
final_column agg.CountAll at = reads_of.SumAt at
final_column (agg.Count e) at = reads_of.SumAt at
final_column (agg.Sum e) at = reads_of.HalvesAt at
final_column (agg.Min e) at = reads_of.BestAt extreme.Least at
final_column (agg.Max e) at = reads_of.BestAt extreme.Greatest at

-- and what several read, one behind the other
abbrev pub final_columns : List Aggregate → ℕ → List Column
final_columns [] at = []
final_columns (a ∷ aggs) at = final_column a at ∷ final_columns aggs (at + width a)
