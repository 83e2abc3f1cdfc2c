use Rattle.std.proofs.Common.{sym}
use Rattle.hq_whole.proofs.Plans.{listed-serves}
use Rattle.hq_whole.proofs.planning.listed_on_nodes.Goals as goal

pub returns : goal.returns
returns c = listed-serves c.args.defs.now c.args.query.now c.args.out c.in_ok-built.built c.in_ok-plan.plan c.requires.bound c.requires.plain (sym c.requires.listed) c.in_ok-built.ensures.joined c.in_ok-plan.ensures
