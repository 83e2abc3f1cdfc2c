-- The places so far are clean.
use Rattle.std.proofs.Common.{◌≡◌, ℕ, ◌<◌, drop, IsTrue}
use Rattle.hq_lane.specs.BucketFiles.{file_bytes, base_bytes}
use Rattle.hq_lane.specs.Lanes.{are_clean, file_of}
use Rattle.hq_lane.proofs.bucket_files.all_clean.Given as goal

abbrev pub invariant-loop-file : goal.invariant-loop-file
invariant-loop-file g l = record {
  clean : are_clean (drop l.file-index l.files) ≡ are_clean l.files;
  just : IsTrue g.F.StoredFile.tells → (b : ℕ) → b < l.file-index → file_bytes (file_of l.files b).file ≡ base_bytes (file_of l.files b);
}
