use Rattle.std.proofs.Common.{subst}
use Rattle.hq_pump.specs.Pumping.{StandsOwing}
use Rattle.hq_pump.proofs.Hearing.{none_owed}
use Rattle.hq_pump.proofs.hear.answer.Goals as goal

pub returns-then-owes-clause-runs : goal.returns-then-owes-clause-runs
returns-then-owes-clause-runs g c s i taken at handed =
    c.send_ack.ensures.runs s i taken (subst (StandsOwing s i c.args.lane.now (g.L.Link.state c.args.link.now) taken) c.if-owes.true at) handed

pub returns-else-owes-clause-runs : goal.returns-else-owes-clause-runs
returns-else-owes-clause-runs g c s i taken at handed =
    none_owed s i c.args.lane.now (g.L.Link.state c.args.link.now) taken (subst (StandsOwing s i c.args.lane.now (g.L.Link.state c.args.link.now) taken) c.if-owes.false at)
