use Rattle.hq_whole.specs.Tables.{kinds_by}
use Rattle.hq_planner.proofs.Taken.{places-next}
use Rattle.hq_planner.proofs.taking.all_places.Goals as goal

pub loop-source-preserved : goal.loop-source-preserved
loop-source-preserved c =
    places-next (kinds_by c.args.defs.now) c.args.taken.now c.loop-source.source-index c.loop-source.width c.in_ok-width.width c.source-item.result c.loop-source.all c.add_places.new.all c.loop-source-test.true c.source-item.is
    c.loop-source.invariant c.in_ok-width.ensures.width c.in_ok-width.ensures.places
