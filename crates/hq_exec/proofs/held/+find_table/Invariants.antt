use Rattle.std.proofs.Common.{length}
use Rattle.hq_exec.proofs.held.+find_table.Given as goal

abbrev pub decreases-find_table : goal.decreases-find_table
decreases-find_table g l = length l.tables.now
