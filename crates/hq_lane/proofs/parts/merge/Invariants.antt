-- The places below `bucket` have moved.
use Rattle.std.proofs.Common.{◌≡◌, ℕ, ◌<◌, ◌≤◌, true, false, length}
use Rattle.hq_lane.specs.Lanes.{file_of, HaveIds, owns}
use Rattle.hq_lane.proofs.parts.merge.Given as goal

abbrev pub invariant-loop-bucket : goal.invariant-loop-bucket
invariant-loop-bucket g l = record {
  len : length l.files ≡ 16;
  table : l.part.table ≡ l.initial.part.table;
  number : l.part.number ≡ l.initial.part.number;
  ids : HaveIds l.initial.part.table l.initial.part.number l.files;
  here : l.part.here ≡ l.initial.part.here;
  moved : (b : ℕ) → b < l.bucket → owns l.initial.part b ≡ true → file_of l.files b ≡ file_of l.initial.part.files b;
  others : (b : ℕ) → owns l.initial.part b ≡ false → file_of l.files b ≡ file_of l.initial.files b;
  left : (b : ℕ) → l.bucket ≤ b → file_of l.part.files b ≡ file_of l.initial.part.files b;
}
