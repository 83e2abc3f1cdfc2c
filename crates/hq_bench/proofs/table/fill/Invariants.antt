-- The store stays quiet, and fewer rows are left.
use Rattle.std.proofs.Common.{◌-◌}
use Rattle.hq_table.specs.Home.{IsQuiet}
use Rattle.hq_bench.proofs.table.fill.Given as goal

abbrev pub invariant-loop-first : goal.invariant-loop-first
invariant-loop-first l = IsQuiet l.store

abbrev pub decreases-loop-first : goal.decreases-loop-first
decreases-loop-first l = l.asked.rows - l.first
