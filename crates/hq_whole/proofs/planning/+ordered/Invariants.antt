use Rattle.std.proofs.Common.{◌-◌}
use Rattle.hq_whole.proofs.planning.+ordered.Given as goal

abbrev pub decreases-ordered : goal.decreases-ordered
decreases-ordered l = 8 - l.at
