-- No share has a row.
use Rattle.std.proofs.Common.{◌≡◌, ◌-◌, ◌≤◌, ℕ, [], vec_len}
use Rattle.hq_txn.specs.Shares.{share_in}
use Rattle.hq_txn.proofs.shares.no_shares.Given as goal

abbrev pub invariant-loop-alloc : goal.invariant-loop-alloc
invariant-loop-alloc l = record {
  few : vec_len l.shares ≤ 16;
  none : (b : ℕ) → share_in l.shares.items b ≡ [];
}

abbrev pub decreases-loop-alloc : goal.decreases-loop-alloc
decreases-loop-alloc l = 16 - vec_len l.shares
