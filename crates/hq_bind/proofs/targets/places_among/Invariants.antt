use Rattle.std.proofs.Common.{◌≡◌, take}
use Rattle.hq_bind.specs.Targets.{places_among}
use Rattle.hq_bind.proofs.targets.places_among.Given as goal

abbrev pub invariant-loop-column : goal.invariant-loop-column
invariant-loop-column l = l.places ≡ places_among (take l.column-index l.columns) l.names
