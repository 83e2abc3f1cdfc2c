use Rattle.std.proofs.Common.{◌≡◌, ◌++◌, take}
use Rattle.hq_bind.specs.Scope.{columns_of}
use Rattle.hq_bind.proofs.scope.put_columns.Given as goal

abbrev pub invariant-loop-column : goal.invariant-loop-column
invariant-loop-column l = l.columns ≡ l.fn.columns ++ columns_of l.source (take l.column-index l.more)
