use Rattle.std.proofs.Common.{length}
use Rattle.hq_planwire.proofs.rules.+times_in.Given as goal

abbrev pub decreases-times_in : goal.decreases-times_in
decreases-times_in l = length l.ops.now
