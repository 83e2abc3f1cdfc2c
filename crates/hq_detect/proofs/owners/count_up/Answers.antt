use Rattle.std.proofs.Common.{arith}
use Rattle.hq_detect.proofs.Ups.{some_counted}
use Rattle.hq_detect.proofs.owners.count_up.Goals as goal

pub returns-clause-some : goal.returns-clause-some
returns-clause-some c = some_counted c.args.marks.now c.loop-node.node c.loop-node.count (omega (arith, c.nodes-node-end.ensures.nodes)) c.requires c.loop-node.invariant.count
