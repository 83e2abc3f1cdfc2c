use Rattle.std.proofs.Common.{length, ◌-◌}
use Rattle.hq_exec.proofs.line.+push_from.Given as goal

abbrev pub decreases-push_from : goal.decreases-push_from
decreases-push_from g l = length l.pipes.now.items - l.at
