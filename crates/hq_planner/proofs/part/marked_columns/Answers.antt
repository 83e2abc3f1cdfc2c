use Rattle.std.proofs.Common.{arith}
use Rattle.hq_planner.proofs.Marked.{marked-next}
use Rattle.hq_planner.proofs.part.marked_columns.Goals as goal

pub loop-place-preserved : goal.loop-place-preserved
loop-place-preserved c =
    marked-next c.args.marks.now c.args.columns.now c.loop-place.place c.index-columns-place.result c.loop-place.found c.add_column.new.found (omega arith) c.loop-place-test.true c.index-columns-place.is c.loop-place.invariant c.in_ok-add_column.ensures
