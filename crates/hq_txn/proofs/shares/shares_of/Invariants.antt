-- The shares of the rows so far, and then those of the rows that are left.
use Rattle.std.proofs.Common.{◌≡◌, ◌++◌, ℕ, drop, vec_len}
use Rattle.hq_value.specs.Bucket.{share_from}
use Rattle.hq_txn.specs.Shares.{share_in}
use Rattle.hq_txn.proofs.shares.shares_of.Given as goal

abbrev pub invariant-loop-place : goal.invariant-loop-place
invariant-loop-place l = record {
  count : vec_len l.shares ≡ 16;
  shares : (b : ℕ) → share_in l.shares.items b ++ share_from l.def.keys l.place (drop l.place l.rows) b ≡ share_from l.def.keys 0 l.rows b;
}
