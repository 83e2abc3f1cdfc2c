-- The buckets so far, and no more than that.
use Rattle.std.proofs.Common.{◌≡◌, ◌≤◌, ◌==◌, filter, slice_index, take}
use Rattle.std.specs.List.{range_with_len}
use Rattle.hq_dispatch.proofs.buckets.buckets_of.Given as goal

abbrev pub invariant-loop-bucket : goal.invariant-loop-bucket
invariant-loop-bucket l = record {
  within : l.count ≤ l.bucket;
  are : take l.count l.all ≡ filter (λ b. slice_index l.owner b == l.node) (range_with_len 0 l.bucket);
}
