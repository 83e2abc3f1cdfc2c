use Rattle.std.proofs.Common.{◌≡◌, take}
use Rattle.std.specs.Prelude.{flat_map}
use Rattle.hq_bind.specs.Scope.{source_columns}
use Rattle.hq_bind.proofs.scope.scope.Given as goal

abbrev pub invariant-loop-source : goal.invariant-loop-source
invariant-loop-source l = l.columns ≡ flat_map (source_columns l.defs) (take l.source-index l.sources)
