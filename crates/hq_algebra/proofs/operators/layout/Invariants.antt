use Rattle.std.proofs.Common.{◌≡◌, drop}
use Rattle.hq_algebra.specs.Kinds.{layout}
use Rattle.hq_algebra.proofs.Every.{with_front}
use Rattle.hq_algebra.proofs.operators.layout.Given as goal

abbrev pub invariant-loop-aggregate : goal.invariant-loop-aggregate
invariant-loop-aggregate l = with_front l.found (layout l.kinds (drop l.aggregate-index l.aggregates)) ≡ layout l.kinds l.aggregates
