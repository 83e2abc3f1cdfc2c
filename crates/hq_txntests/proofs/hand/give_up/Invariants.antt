-- The lanes in hand fall.
use Rattle.std.proofs.Common.{length}
use Rattle.hq_txntests.proofs.hand.give_up.Given as goal

abbrev pub decreases-loop-lane : goal.decreases-loop-lane
decreases-loop-lane l = length l.txn.lanes
