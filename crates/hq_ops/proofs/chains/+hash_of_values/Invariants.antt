use Rattle.std.proofs.Common.{length}
use Rattle.hq_ops.proofs.chains.+hash_of_values.Given as goal

abbrev pub decreases-hash_of_values : goal.decreases-hash_of_values
decreases-hash_of_values l = length l.values.now
