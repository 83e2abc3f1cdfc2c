use Rattle.std.proofs.Common.{◌≡◌, drop}
use Rattle.hq_laws.specs.Equated.{keys_equated}
use Rattle.hq_whole.proofs.checking.are_equated.Given as goal

abbrev pub invariant-loop-i : goal.invariant-loop-i
invariant-loop-i l = keys_equated l.width l.columns l.conds l.left l.right ≡ keys_equated l.width l.columns l.conds (drop l.i l.left) (drop l.i l.right)
