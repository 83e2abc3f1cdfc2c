use Rattle.std.proofs.Common.{◌≡◌, drop}
use Rattle.hq_bind.specs.Scope.{table_named}
use Rattle.hq_bind.proofs.scope.table_named.Given as goal

abbrev pub invariant-loop-entry : goal.invariant-loop-entry
invariant-loop-entry l = table_named l.defs l.name ≡ table_named (drop l.entry-index l.defs) l.name
