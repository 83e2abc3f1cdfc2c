use Rattle.std.proofs.Common.{length}
use Rattle.hq_algebra.specs.Plans.{operators}
use Rattle.hq_exec.proofs.leaf.+leaf_of.Given as goal

abbrev pub decreases-leaf_of : goal.decreases-leaf_of
decreases-leaf_of l = length (operators l.op.now)
