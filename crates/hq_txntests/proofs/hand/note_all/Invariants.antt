-- The lanes that are left fall.
use Rattle.std.proofs.Common.{vec_len}
use Rattle.hq_txntests.proofs.hand.note_all.Given as goal

abbrev pub decreases-loop-lanes : goal.decreases-loop-lanes
decreases-loop-lanes l = vec_len l.lanes
