use Rattle.std.proofs.Common.{◌≡◌, map, take}
use Rattle.hq_bind.specs.Bound.{key_place}
use Rattle.hq_bind.proofs.create.key_places.Given as goal

abbrev pub invariant-loop-key : goal.invariant-loop-key
invariant-loop-key l = l.places ≡ map (key_place l.columns) (take l.key-index l.keys)
