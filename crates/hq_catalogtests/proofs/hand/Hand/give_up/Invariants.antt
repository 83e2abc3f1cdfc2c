-- The lanes that are left fall.
use Rattle.std.proofs.Common.{vec_len}
use Rattle.hq_catalogtests.proofs.hand.Hand.give_up.Given as goal

abbrev pub decreases-loop-lane : goal.decreases-loop-lane
decreases-loop-lane l = vec_len l.sealed
