use Rattle.std.proofs.Common.{◌≡◌, ◌+◌, ◌≤◌, ◌++◌, drop, length}
use Rattle.hq_laws.specs.Stages.{final_aggregates}
use Rattle.hq_whole.proofs.stages.final_aggregates.Given as goal

abbrev pub invariant-loop-aggregate : goal.invariant-loop-aggregate
invariant-loop-aggregate l = record {
  built : l.finals ++ final_aggregates l.place (drop l.aggregate-index l.aggregates) ≡ final_aggregates l.at l.aggregates;
  within : l.place ≤ l.at + (l.aggregate-index + l.aggregate-index);
}
