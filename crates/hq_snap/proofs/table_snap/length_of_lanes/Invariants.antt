use Rattle.std.proofs.Common.{◌≡◌, ◌≤◌, ◌*◌, ◌^◌, take}
use Rattle.hq_snap.specs.Snaps.{table_length}
use Rattle.hq_snap.proofs.table_snap.length_of_lanes.Given as goal

abbrev pub invariant-loop-lane : goal.invariant-loop-lane
invariant-loop-lane g l = record {
  sum : l.total ≡ table_length (take l.lane-index l.lanes);
  fits : l.total ≤ l.lane-index * (16 * 2 ^ 64);
}
