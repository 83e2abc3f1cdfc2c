-- The seals that are gone from the list are put in their places.
use Rattle.std.proofs.Common.{◌≡◌, ◌≤◌, take, vec_len}
use Rattle.hq_snap.proofs.Placed.{IsPutBack}
use Rattle.hq_snap.proofs.table_seals.merge_files.Given as goal

abbrev pub invariant-loop-file : goal.invariant-loop-file
invariant-loop-file g l = record {
  below : vec_len l.files ≤ vec_len l.fn.files;
  left : l.files.items ≡ take (vec_len l.files) l.fn.files.items;
  put : IsPutBack l.fn.files.items l.initial.lanes.items l.lanes.items (vec_len l.files);
}

abbrev pub decreases-loop-file : goal.decreases-loop-file
decreases-loop-file g l = vec_len l.files
