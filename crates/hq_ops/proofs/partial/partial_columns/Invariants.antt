use Rattle.std.proofs.Common.{take}
use Rattle.hq_ops.specs.Grouped.{ArePartial}
use Rattle.hq_ops.proofs.partial.partial_columns.Given as goal

abbrev pub invariant-loop-aggregate : goal.invariant-loop-aggregate
invariant-loop-aggregate l = ArePartial (take l.aggregate-index l.aggregates) l.columns.items
