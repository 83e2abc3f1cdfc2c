use Rattle.std.proofs.Common.{◌≡◌, ◌≤◌, None, drop, length}
use Rattle.hq_laws.specs.Guards.{guards_of}
use Rattle.hq_whole.specs.Conjoined.{conjoined}
use Rattle.hq_whole.proofs.source.all_guards.Given as goal

abbrev pub invariant-loop-at : goal.invariant-loop-at
invariant-loop-at l = record {
  found : l.found ≡ conjoined (guards_of l.kinds l.width (drop l.at l.conds)) None;
  within : l.at ≤ length l.conds;
}

abbrev pub decreases-loop-at : goal.decreases-loop-at
decreases-loop-at l = l.at
