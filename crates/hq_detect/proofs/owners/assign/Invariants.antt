use Rattle.std.proofs.Common.{◌≡◌, ◌<◌, ℕ, length, slice_index_or}
use Rattle.hq_detect.specs.Assign.{owner_of}
use Rattle.hq_detect.proofs.owners.assign.Given as goal

abbrev pub invariant-loop-bucket : goal.invariant-loop-bucket
invariant-loop-bucket l = record {
  so_far : (k : ℕ) → k < l.bucket → slice_index_or l.owners k 0 ≡ owner_of l.marks k;
  len : length l.owners ≡ 16;
}
