use Rattle.std.proofs.Common.{length}
use Rattle.hq_planwire.proofs.rules.+times_received.Given as goal

abbrev pub decreases-times_received : goal.decreases-times_received
decreases-times_received l = length l.parts.now
