use Rattle.std.proofs.Common.{◌≡◌, take}
use Rattle.hq_bind.specs.Reading.{group_places}
use Rattle.hq_bind.proofs.reading.group_places.Given as goal

abbrev pub invariant-loop-r : goal.invariant-loop-r
invariant-loop-r l = l.places ≡ group_places l.columns (take l.r-index l.groups)
