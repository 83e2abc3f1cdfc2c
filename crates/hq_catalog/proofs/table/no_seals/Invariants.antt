use Rattle.std.proofs.Common.{◌≡◌, replicate, None}
use Rattle.hq_catalog.proofs.table.no_seals.Given as goal

abbrev pub invariant-loop : goal.invariant-loop
invariant-loop g l = l.seals.items ≡ replicate l.counter (replicate 16 None)
