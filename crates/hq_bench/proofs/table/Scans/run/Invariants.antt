-- The store stays quiet.
use Rattle.hq_table.specs.Home.{IsQuiet}
use Rattle.hq_bench.proofs.table.Scans.run.Given as goal

abbrev pub invariant-loop : goal.invariant-loop
invariant-loop l = IsQuiet l.store
