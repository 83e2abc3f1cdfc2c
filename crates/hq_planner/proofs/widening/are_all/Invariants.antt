use Rattle.std.proofs.Common.{◌≡◌, drop}
use Rattle.hq_narrow.specs.Widened.{are_all_from}
use Rattle.hq_planner.proofs.widening.are_all.Given as goal

abbrev pub invariant-loop-i : goal.invariant-loop-i
invariant-loop-i l = are_all_from 0 l.width l.columns ≡ are_all_from l.i l.width (drop l.i l.columns)
