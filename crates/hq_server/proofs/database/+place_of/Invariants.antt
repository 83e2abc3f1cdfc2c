use Rattle.std.proofs.Common.{length}
use Rattle.hq_server.proofs.database.+place_of.Given as goal

abbrev pub decreases-place_of : goal.decreases-place_of
decreases-place_of l = length l.tables.now
