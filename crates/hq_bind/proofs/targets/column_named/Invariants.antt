use Rattle.std.proofs.Common.{◌≡◌, drop}
use Rattle.hq_bind.specs.Targets.{column_named}
use Rattle.hq_bind.proofs.targets.column_named.Given as goal

abbrev pub invariant-loop-column : goal.invariant-loop-column
invariant-loop-column l = column_named l.columns l.name ≡ column_named (drop l.column-index l.columns) l.name
