use Rattle.std.proofs.Common.{◌≡◌, take}
use Rattle.hq_algebra.proofs.copies.copy_exprs.Given as goal

abbrev pub invariant-loop-e : goal.invariant-loop-e
invariant-loop-e l = l.copy ≡ take l.e-index l.exprs
