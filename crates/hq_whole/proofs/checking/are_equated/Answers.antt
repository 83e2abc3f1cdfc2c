use Rattle.hq_whole.proofs.Stepping.{lengths-differ}
use Rattle.hq_whole.proofs.checking.are_equated.Goals as goal

pub returns-then-left-right : goal.returns-then-left-right
returns-then-left-right c = lengths-differ c.args.width c.args.columns c.args.conds.now c.args.left.now c.args.right.now c.if-left-right.true
