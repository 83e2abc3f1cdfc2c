-- The lanes so far are flushed, and those behind are as before.
use Rattle.std.proofs.Common.{◌≡◌, ◌<◌, ◌≤◌, ℕ, vec_len, vec_capacity}
use Rattle.hq_value.specs.Causes.{GoesOn}
use Rattle.hq_lane.specs.Lanes.{AreFlushed}
use Rattle.hq_txn.specs.Transactions.{lane_at, IsUnsealed}
use Rattle.hq_txn.proofs.prepare.flush_lanes.Given as goal

abbrev pub invariant-loop-place : goal.invariant-loop-place
invariant-loop-place g l = record {
  len : vec_len l.lanes ≡ vec_len l.initial.lanes;
  capacity : vec_capacity l.lanes ≡ vec_capacity l.initial.lanes;
  flushed : (n : ℕ) → n < l.place → AreFlushed (lane_at l.lanes.items n).files;
  kept : (n : ℕ) → IsUnsealed g.F.StoredFile.tells (lane_at l.initial.lanes.items n) (lane_at l.lanes.items n);
  rest : (n : ℕ) → l.place ≤ n → lane_at l.lanes.items n ≡ lane_at l.initial.lanes.items n;
  store : GoesOn g.S.Store.faults g.S.Store.given g.S.Store.sound l.initial.store l.store;
}
