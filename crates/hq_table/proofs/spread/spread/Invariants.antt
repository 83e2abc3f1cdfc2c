use Rattle.std.proofs.Common.{◌≡◌, ◌<◌, ◌+◌, ◌++◌, ℕ, All, length}
use Rattle.hq_value.specs.Bucket.{share_from}
use Rattle.hq_table.specs.Home.{rows_at}
use Rattle.hq_table.proofs.spread.spread.Given as goal

abbrev pub invariant-loop-row : goal.invariant-loop-row
invariant-loop-row l = record {
  sixteen : length l.buckets.items ≡ 16;
  shared : (b : ℕ) → share_from l.keys 0 l.fn.rows.items b ≡ rows_at l.buckets.items b ++ share_from l.keys l.place l.row-iterator.rest.items b;
  keyed : All (λ row. All (λ key. key < length row) l.keys) l.row-iterator.rest.items;
  count : l.place + length l.row-iterator.rest.items ≡ length l.fn.rows.items;
}
