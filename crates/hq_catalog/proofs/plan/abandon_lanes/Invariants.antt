-- One lane less is left.
use Rattle.std.proofs.Common.{vec_len}
use Rattle.hq_catalog.proofs.plan.abandon_lanes.Given as goal

abbrev pub decreases-loop-lane : goal.decreases-loop-lane
decreases-loop-lane g l = vec_len l.lanes
