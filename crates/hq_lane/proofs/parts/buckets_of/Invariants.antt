-- The buckets below `b` are marked.
use Rattle.std.proofs.Common.{◌≡◌, ℕ, ◌<◌, false, nat_eq, slice_index, slice_index_or, length}
use Rattle.hq_lane.proofs.parts.buckets_of.Given as goal

abbrev pub invariant-loop-b : goal.invariant-loop-b
invariant-loop-b l = record {
  len : length l.here ≡ 16;
  marked : (k : ℕ) → k < l.b → slice_index_or l.here k false ≡ nat_eq (slice_index l.owner k) l.node;
}
