-- The lanes so far are sealed, and those behind are as before.
use Rattle.std.proofs.Common.{◌≡◌, ◌<◌, ◌≤◌, ℕ, vec_len}
use Rattle.hq_value.specs.Causes.{GoesOn}
use Rattle.hq_txn.specs.Transactions.{lane_at, IsSealedFrom}
use Rattle.hq_txn.proofs.prepare.seal_lanes.Given as goal

abbrev pub invariant-loop-place : goal.invariant-loop-place
invariant-loop-place g l = record {
  len : vec_len l.lanes ≡ vec_len l.initial.lanes;
  sealed : (n : ℕ) → n < l.place → IsSealedFrom g.F.StoredFile.tells g.Z.SealCopy.tells (lane_at l.initial.lanes.items n) (lane_at l.lanes.items n);
  rest : (n : ℕ) → l.place ≤ n → lane_at l.lanes.items n ≡ lane_at l.initial.lanes.items n;
  no_fault : g.S.Store.faults l.store ≡ g.S.Store.faults l.initial.store;
  store : GoesOn g.S.Store.faults g.S.Store.given g.S.Store.sound l.initial.store l.store;
}
