use Rattle.std.proofs.Common.{◌≡◌, Some, take}
use Rattle.hq_algebra.specs.Operators.{keys_kinds}
use Rattle.hq_planner.proofs.fitting.are_kinds.Given as goal

abbrev pub invariant-loop-i : goal.invariant-loop-i
invariant-loop-i l = keys_kinds l.whole (take l.i l.columns) ≡ Some (take l.i l.kinds)
