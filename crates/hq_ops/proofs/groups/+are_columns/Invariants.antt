use Rattle.std.proofs.Common.{length}
use Rattle.hq_ops.proofs.groups.+are_columns.Given as goal

abbrev pub decreases-are_columns : goal.decreases-are_columns
decreases-are_columns l = length l.places.now
