use Rattle.std.proofs.Common.{◌≡◌, take}
use Rattle.hq_value.specs.Kinds.{kinds_of}
use Rattle.hq_value.proofs.kind.kinds_of.Given as goal

abbrev pub invariant-loop-column : goal.invariant-loop-column
invariant-loop-column l = l.kinds.items ≡ kinds_of (take l.column-index l.columns)
