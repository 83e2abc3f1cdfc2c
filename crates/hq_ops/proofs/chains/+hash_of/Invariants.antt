use Rattle.std.proofs.Common.{length}
use Rattle.hq_ops.proofs.chains.+hash_of.Given as goal

abbrev pub decreases-hash_of : goal.decreases-hash_of
decreases-hash_of l = length l.keys.now
