use Rattle.std.proofs.Common.{length}
use Rattle.hq_bind.proofs.insert.+literals_fit.Given as goal

abbrev pub decreases-literals_fit : goal.decreases-literals_fit
decreases-literals_fit l = length l.kinds.now
