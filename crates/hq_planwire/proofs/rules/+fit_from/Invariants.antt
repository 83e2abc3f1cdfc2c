use Rattle.std.proofs.Common.{length, ◌-◌}
use Rattle.hq_planwire.proofs.rules.+fit_from.Given as goal

abbrev pub decreases-fit_from : goal.decreases-fit_from
decreases-fit_from l = length l.parts.now - l.place
