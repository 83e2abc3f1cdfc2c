-- The files of the lanes below `n` are there.
use Rattle.std.proofs.Common.{◌≡◌, ℕ, ◌<◌, ◌≤◌, length}
use Rattle.hq_snap.specs.Snaps.{lane_in}
use Rattle.hq_snap.specs.Deltas.{files_since}
use Rattle.hq_snap.proofs.table_delta.copy_files.Given as goal

abbrev pub invariant-loop-n : goal.invariant-loop-n
invariant-loop-n g l = record {
  files : l.files.items ≡ files_since l.changed l.at l.lanes l.n;
  few : (k : ℕ) → k < l.n → length (lane_in l.lanes k) ≤ 16;
}
