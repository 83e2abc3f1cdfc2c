use Rattle.hq_whole.proofs.Plans.{joined-serves, places-of}
use Rattle.hq_whole.specs.Tables.{kinds_by}
use Rattle.hq_whole.proofs.planning.grouped_on_nodes.Goals as goal

pub closed-requires-clause-places : goal.closed-requires-clause-places
closed-requires-clause-places c = places-of (kinds_by c.args.defs.now) c.args.query.now c.requires.bound

pub returns : goal.returns
returns c = joined-serves c.args.defs.now c.args.query.now c.args.sent c.in_ok-built.built c.in_ok-plan.plan c.requires.bound c.requires.sent c.requires.sendable c.in_ok-built.ensures.joined c.in_ok-plan.ensures
