use Rattle.std.proofs.Common.{length}
use Rattle.hq_algebra.specs.Plans.{operators}
use Rattle.hq_exec.proofs.pipes.+pipes_of.Given as goal

abbrev pub decreases-pipes_of : goal.decreases-pipes_of
decreases-pipes_of l = length (operators l.op.now)
