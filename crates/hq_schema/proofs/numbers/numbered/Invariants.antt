use Rattle.std.proofs.Common.{◌≡◌, take}
use Rattle.hq_schema.specs.Numbers.{numbered}
use Rattle.hq_schema.proofs.numbers.numbered.Given as goal

abbrev pub invariant-loop-table : goal.invariant-loop-table
invariant-loop-table l = l.defs.items ≡ numbered 0 (take l.table-index l.tables)
