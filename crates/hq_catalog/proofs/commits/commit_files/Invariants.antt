-- The files below `bucket` are committed.
use Rattle.std.proofs.Common.{◌≡◌, ℕ, ◌+◌, ◌<◌, ◌≤◌, ◌++◌, length, take, flat_map, vec_len, vec_capacity}
use Rattle.hq_lane.specs.Lanes.{file_of}
use Rattle.hq_lane.specs.BucketFiles.{IsSound}
use Rattle.hq_catalog.specs.Commits.{grown_if_any, AreCommitted}
use Rattle.hq_catalog.proofs.commits.commit_files.Given as goal

abbrev pub invariant-loop-bucket : goal.invariant-loop-bucket
invariant-loop-bucket g l = record {
  committed : AreCommitted l.bucket (l.place + 1) l.initial.lane l.lane l.initial.seals l.seals l.initial.changed l.changed;
  sixteen : 0 < l.bucket → length l.initial.lane.files ≡ 16;
  sound : (b : ℕ) → b < l.bucket → IsSound g.F.StoredFile.tells g.Z.SealCopy.tells (file_of l.initial.lane.files b);
  grown : l.grown.items ≡ l.initial.grown.items ++ flat_map (grown_if_any l.place) (take l.bucket l.initial.lane.files);
  grown_len : vec_len l.grown ≤ vec_len l.initial.grown + l.bucket;
  grown_room : vec_capacity l.grown ≡ vec_capacity l.initial.grown;
}
