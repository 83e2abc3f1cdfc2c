use Rattle.std.proofs.Common.{length}
use Rattle.hq_algebra.specs.Plans.{operators}
use Rattle.hq_exec.proofs.builds.+add_builds.Given as goal

abbrev pub decreases-add_builds : goal.decreases-add_builds
decreases-add_builds g l = length (operators l.op.now)
