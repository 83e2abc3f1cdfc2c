-- The lanes that are left fall.
use Rattle.std.proofs.Common.{vec_len}
use Rattle.hq_txntests.proofs.times.time_parts_of.Given as goal

abbrev pub decreases-loop-lane : goal.decreases-loop-lane
decreases-loop-lane g l = vec_len l.lanes
