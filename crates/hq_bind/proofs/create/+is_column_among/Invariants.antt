use Rattle.std.proofs.Common.{length}
use Rattle.hq_bind.proofs.create.+is_column_among.Given as goal

abbrev pub decreases-is_column_among : goal.decreases-is_column_among
decreases-is_column_among l = length l.columns.now
