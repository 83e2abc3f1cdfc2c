-- Each owner is one that there is.
use Rattle.std.proofs.Common.{◌<◌, ℕ, slice_index}
use Rattle.hq_txntests.proofs.times.owners.Given as goal

abbrev pub invariant-loop-bucket : goal.invariant-loop-bucket
invariant-loop-bucket l = record {
  below : (b : ℕ) → b < 16 → slice_index l.owner b < 16;
}
