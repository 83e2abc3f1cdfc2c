use Rattle.std.proofs.Common.{subst, sym}
use Rattle.hq_whole.specs.Serves.{Serves}
use Rattle.hq_whole.specs.Tables.{kinds_by}
use Rattle.hq_whole.proofs.Plans.{gathered-serves, places-of}
use Rattle.hq_whole.proofs.planning.at_one_node.Goals as goal

pub gathered-requires : goal.gathered-requires
gathered-requires c = places-of (kinds_by c.args.defs.now) c.args.query.now c.requires

pub returns : goal.returns
returns c = subst (Serves c.args.defs.now c.args.query.now) (sym c.in_ok-plan.ensures) (gathered-serves c.args.defs.now c.args.query.now c.requires)
