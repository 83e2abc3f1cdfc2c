use Rattle.std.proofs.Common.{arith}
use Rattle.hq_planner.proofs.Nodes.{kinds-more}
use Rattle.hq_planner.proofs.fitting.are_kinds.Goals as goal

pub loop-i-preserved : goal.loop-i-preserved
loop-i-preserved c = kinds-more c.args.whole.now c.args.columns.now c.args.kinds.now c.loop-i.i c.loop-i-test.true (omega arith) (c.is_kind.ensures c.if-not-is_kind.false) c.loop-i.invariant
