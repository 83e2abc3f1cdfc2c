use Rattle.hq_bind.specs.Targets.{row_of}
use Rattle.hq_bind.proofs.Loops.{rows_more}
use Rattle.hq_bind.proofs.targets.rows.Goals as goal

pub loop-tuple-preserved : goal.loop-tuple-preserved
loop-tuple-preserved c =
    rows_more (row_of c.args.places.now) c.args.tuples.now c.loop-tuple.tuple-index c.tuple-item.result c.in_ok-row.row c.loop-tuple.rows.items c.push.new.self.items
    c.loop-tuple-test.true c.tuple-item.is c.loop-tuple.invariant c.in_ok-row.ensures c.in_ok-push.ensures.items
