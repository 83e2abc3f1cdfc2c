use Rattle.std.proofs.Common.{◌≡◌, None, replicate}
use Rattle.hq_table.proofs.table.no_seals.Given as goal

abbrev pub invariant-loop : goal.invariant-loop
invariant-loop l = record {
  seals : l.seals.items ≡ replicate l.counter None;
}
