-- The lanes that are left fall.
use Rattle.std.proofs.Common.{vec_len}
use Rattle.hq_txntests.proofs.spread.rows_of_lanes.Given as goal

abbrev pub decreases-loop-lane : goal.decreases-loop-lane
decreases-loop-lane l = vec_len l.lanes
