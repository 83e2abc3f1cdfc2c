-- The places below `bucket` have moved.
use Rattle.std.proofs.Common.{◌≡◌, ℕ, ◌<◌, ◌≤◌, slice_index, vec_len}
use Rattle.hq_lane.specs.Lanes.{file_of, part_at, file_in}
use Rattle.hq_lane.proofs.parts.share.Given as goal

abbrev pub invariant-loop-bucket : goal.invariant-loop-bucket
invariant-loop-bucket g l = record {
  parts : vec_len l.parts ≡ 16;
  table : (n : ℕ) → (part_at l.parts.items n).table ≡ (part_at l.initial.parts.items n).table;
  number : (n : ℕ) → (part_at l.parts.items n).number ≡ (part_at l.initial.parts.items n).number;
  here : (n : ℕ) → (part_at l.parts.items n).here ≡ (part_at l.initial.parts.items n).here;
  moved : (b : ℕ) → b < l.bucket → file_in l.parts.items (slice_index l.owner b) b ≡ file_of l.initial.files b;
  left : (b : ℕ) → l.bucket ≤ b → file_of l.files b ≡ file_of l.initial.files b;
}
