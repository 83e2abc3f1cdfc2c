use Rattle.std.proofs.Common.{◌≡◌, take}
use Rattle.hq_bind.specs.Targets.{kinds_named}
use Rattle.hq_bind.proofs.targets.kinds_named.Given as goal

abbrev pub invariant-loop-name : goal.invariant-loop-name
invariant-loop-name l = l.kinds ≡ kinds_named l.columns (take l.name-index l.names)
