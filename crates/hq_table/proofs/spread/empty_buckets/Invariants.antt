use Rattle.std.proofs.Common.{◌≡◌, [], replicate}
use Rattle.hq_table.proofs.spread.empty_buckets.Given as goal

abbrev pub invariant-loop : goal.invariant-loop
invariant-loop l = record {
  buckets : l.buckets.items ≡ replicate l.counter [];
}
