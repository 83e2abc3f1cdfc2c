use Rattle.std.proofs.Common.{length}
use Rattle.hq_exec.proofs.held.+find_sent.Given as goal

abbrev pub decreases-find_sent : goal.decreases-find_sent
decreases-find_sent l = length l.incoming.now
