use Rattle.std.proofs.Common.{◌≡◌, drop}
use Rattle.hq_algebra.specs.Kinds.{every, aggregate_kind}
use Rattle.hq_algebra.proofs.Every.{with_front}
use Rattle.hq_algebra.proofs.operators.values_kinds.Given as goal

abbrev pub invariant-loop-aggregate : goal.invariant-loop-aggregate
invariant-loop-aggregate l = with_front l.found (every (aggregate_kind l.kinds) (drop l.aggregate-index l.aggregates)) ≡ every (aggregate_kind l.kinds) l.aggregates
