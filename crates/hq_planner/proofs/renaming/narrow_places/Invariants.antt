use Rattle.std.proofs.Common.{◌≡◌, map, take}
use Rattle.hq_narrow.specs.Narrow.{place_from}
use Rattle.hq_planner.proofs.renaming.narrow_places.Given as goal

abbrev pub invariant-loop-place : goal.invariant-loop-place
invariant-loop-place l = map (place_from l.columns l.width) l.new ≡ take l.place-index l.places
