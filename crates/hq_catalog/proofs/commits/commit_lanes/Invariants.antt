-- The lanes that are gone from the list have come home.
use Rattle.std.proofs.Common.{◌+◌, ◌*◌, ◌≤◌, vec_len, vec_capacity}
use Rattle.hq_catalog.specs.Kept.{owed}
use Rattle.hq_catalog.proofs.Committing.{IsUnderWay}
use Rattle.hq_catalog.proofs.commits.commit_lanes.Given as goal

abbrev pub invariant-loop-lane : goal.invariant-loop-lane
invariant-loop-lane g l = record {
  way : IsUnderWay g.F.StoredFile.tells g.Z.SealCopy.tells l.place l.fn.lanes.items l.left.items l.initial.tables.items l.tables.items l.initial.grown.items l.grown.items;
  room : 16 * owed l.tables.items + vec_len l.grown ≤ vec_capacity l.grown;
}

abbrev pub decreases-loop-lane : goal.decreases-loop-lane
decreases-loop-lane g l = vec_len l.left
