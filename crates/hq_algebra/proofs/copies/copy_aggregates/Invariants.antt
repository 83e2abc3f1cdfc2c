use Rattle.std.proofs.Common.{◌≡◌, take}
use Rattle.hq_algebra.proofs.copies.copy_aggregates.Given as goal

abbrev pub invariant-loop-aggregate : goal.invariant-loop-aggregate
invariant-loop-aggregate l = l.copy ≡ take l.aggregate-index l.aggregates
