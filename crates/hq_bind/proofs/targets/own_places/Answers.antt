use Rattle.hq_bind.proofs.Loops.{places_more}
use Rattle.hq_bind.proofs.targets.own_places.Goals as goal

pub loop-place-preserved : goal.loop-place-preserved
loop-place-preserved c = places_more c.loop-place.place c.in_ok-place.place c.loop-place.places c.push.new.self c.loop-place.invariant c.in_ok-place.ensures c.in_ok-push.ensures.ok
