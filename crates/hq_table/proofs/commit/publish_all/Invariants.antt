use Rattle.std.proofs.Common.{◌≡◌, ◌<◌, ◌≤◌, ℕ, length}
use Rattle.hq_lane.specs.Lanes.{file_of}
use Rattle.hq_lane.specs.BucketFiles.{good_bytes}
use Rattle.hq_table.specs.Kept.{bytes_in}
use Rattle.hq_table.specs.Home.{IsHome, files_of}
use Rattle.hq_table.proofs.commit.publish_all.Given as goal

abbrev pub invariant-loop-bucket : goal.invariant-loop-bucket
invariant-loop-bucket l = record {
  sixteen : length l.seals.items ≡ 16;
  home : (b : ℕ) → b < l.bucket → IsHome (good_bytes (file_of l.fn.lane.files b)) (file_of l.lane.files b);
  ahead : (b : ℕ) → l.bucket ≤ b → file_of l.lane.files b ≡ file_of l.fn.lane.files b;
  under : (b : ℕ) → b < l.bucket → bytes_in (files_of l.seals.items) b ≡ good_bytes (file_of l.fn.lane.files b);
  still : (b : ℕ) → l.bucket ≤ b → bytes_in (files_of l.seals.items) b ≡ bytes_in (files_of l.fn.seals.items) b;
}
