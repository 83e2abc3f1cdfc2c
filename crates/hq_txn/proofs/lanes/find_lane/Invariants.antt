-- No lane so far is of the table.
use Rattle.std.proofs.Common.{◌≡◌, ◌+◌, drop, true}
use Rattle.hq_txn.specs.Transactions.{has_lane, place_of}
use Rattle.hq_txn.proofs.lanes.find_lane.Given as goal

abbrev pub invariant-loop-place : goal.invariant-loop-place
invariant-loop-place g l = record {
  place : place_of l.lanes l.table ≡ l.place + place_of (drop l.place l.lanes) l.table;
  there : has_lane (drop l.place l.lanes) l.table ≡ true;
}
