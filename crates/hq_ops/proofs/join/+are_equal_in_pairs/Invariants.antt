use Rattle.std.proofs.Common.{length}
use Rattle.hq_ops.proofs.join.+are_equal_in_pairs.Given as goal

abbrev pub decreases-are_equal_in_pairs : goal.decreases-are_equal_in_pairs
decreases-are_equal_in_pairs l = length l.left_keys.now
