-- The part has no file of the buckets so far.
use Rattle.std.proofs.Common.{◌≡◌, ◌<◌, ℕ, false}
use Rattle.hq_lane.specs.Lanes.{owns}
use Rattle.hq_txn.proofs.task.is_used.Given as goal

abbrev pub invariant-loop-bucket : goal.invariant-loop-bucket
invariant-loop-bucket g l = record {
  none : (b : ℕ) → b < l.bucket → owns l.part b ≡ false;
}
