use Rattle.std.proofs.Common.{◌≡◌, drop}
use Rattle.hq_whole.specs.Tables.{def_of}
use Rattle.hq_whole.proofs.tables.def_of.Given as goal

abbrev pub invariant-loop-entry : goal.invariant-loop-entry
invariant-loop-entry l = def_of l.defs l.table ≡ def_of (drop l.entry-index l.defs) l.table
