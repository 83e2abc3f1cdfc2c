-- No lane so far is of the table.
use Rattle.std.proofs.Common.{◌≡◌, drop}
use Rattle.hq_txn.specs.Transactions.{has_lane}
use Rattle.hq_txn.proofs.lanes.is_there.Given as goal

abbrev pub invariant-loop-place : goal.invariant-loop-place
invariant-loop-place g l = record {
  there : has_lane (drop l.place l.lanes) l.table ≡ has_lane l.lanes l.table;
}
