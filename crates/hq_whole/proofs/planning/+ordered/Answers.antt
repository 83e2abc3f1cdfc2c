use Rattle.hq_whole.specs.Tables.{kinds_by}
use Rattle.hq_whole.proofs.Plans.{turned-serves}
use Rattle.hq_whole.proofs.planning.+ordered.Goals as goal

pub returns : goal.returns
returns t c = turned-serves c.args.defs.now c.args.query.now c.in_ok-turned.turned c.in_ok-plan.plan c.in_ok-turned.ensures.reordered c.in_ok-plan.ensures
