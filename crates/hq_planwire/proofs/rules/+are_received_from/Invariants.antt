use Rattle.std.proofs.Common.{◌-◌}
use Rattle.hq_planwire.proofs.rules.+are_received_from.Given as goal

abbrev pub decreases-are_received_from : goal.decreases-are_received_from
decreases-are_received_from l = l.end - l.slice
