use Rattle.std.proofs.Common.{◌≡◌, ◌++◌, drop}
use Rattle.hq_ops.specs.Grouped.{final_columns}
use Rattle.hq_ops.proofs.finals.final_columns.Given as goal

abbrev pub invariant-loop-aggregate : goal.invariant-loop-aggregate
invariant-loop-aggregate l = l.columns.items ++ final_columns (drop l.aggregate-index l.aggregates) l.at ≡ final_columns l.aggregates l.keys
