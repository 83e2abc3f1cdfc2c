-- The files below `i` are flushed, and those from `i` on are as before.
use Rattle.std.proofs.Common.{◌≡◌, ℕ, ◌<◌, ◌≤◌}
use Rattle.hq_value.specs.Causes.{GoesOn}
use Rattle.hq_lane.specs.BucketFiles.{IsFlushed, KeepsBytes}
use Rattle.hq_lane.specs.Lanes.{file_of}
use Rattle.hq_lane.proofs.bucket_files.flush_each.Given as goal

abbrev pub invariant-loop-i : goal.invariant-loop-i
invariant-loop-i g l = record {
  flushed : (b : ℕ) → b < l.i → IsFlushed (file_of l.files b);
  kept : (b : ℕ) → b < l.i → KeepsBytes g.F.StoredFile.tells (file_of l.initial.files b) (file_of l.files b);
  rest : (b : ℕ) → l.i ≤ b → file_of l.files b ≡ file_of l.initial.files b;
  store : GoesOn g.S.Store.faults g.S.Store.given g.S.Store.sound l.initial.store l.store;
}
