use Rattle.hq_planner.proofs.Taken.{place-some, place-none}
use Rattle.hq_planner.proofs.renaming.place_from.Goals as goal

pub returns-in-Some : goal.returns-in-Some
returns-in-Some c = place-some c.args.columns.now c.args.width c.args.i c.in-Some.place.now c.in-Some.ensures.lookup.0 c.in-Some.ensures.lookup.1

pub returns-in-None : goal.returns-in-None
returns-in-None c = place-none c.args.columns.now c.args.width c.args.i c.in-None.ensures.lookup.0
