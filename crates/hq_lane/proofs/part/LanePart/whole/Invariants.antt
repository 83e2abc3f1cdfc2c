-- The parts that are gone have given their places.
use Rattle.std.proofs.Common.{◌≡◌, ℕ, ◌<◌, ◌≤◌, true, take, vec_len}
use Rattle.hq_lane.specs.Lanes.{file_of, part_at, file_in, owns, HaveIds}
use Rattle.hq_lane.proofs.part.LanePart.whole.Given as goal

abbrev pub invariant-loop-part : goal.invariant-loop-part
invariant-loop-part g l = record {
  ids : HaveIds l.table l.number l.files;
  below : vec_len l.parts ≤ vec_len l.fn.parts;
  left : l.parts.items ≡ take (vec_len l.parts) l.fn.parts.items;
  given : (n b : ℕ) → vec_len l.parts ≤ n → n < vec_len l.fn.parts → b < 16 → owns (part_at l.fn.parts.items n) b ≡ true → file_of l.files b ≡ file_in l.fn.parts.items n b;
}

abbrev pub decreases-loop-part : goal.decreases-loop-part
decreases-loop-part g l = vec_len l.parts
