-- The hands that are left fall.
use Rattle.std.proofs.Common.{vec_len}
use Rattle.hq_catalogtests.proofs.world.World.end.Given as goal

abbrev pub decreases-loop-hand : goal.decreases-loop-hand
decreases-loop-hand l = vec_len l.hands
