use Rattle.hq_pump.specs.Exchange.{fault_of}
use Rattle.hq_pump.proofs.Steps.{then_run, still_run}
use Rattle.hq_pump.proofs.turn.send_again.Goals as goal

pub returns-then-is_sent-clause-runs : goal.returns-then-is_sent-clause-runs
returns-then-is_sent-clause-runs g c s i at = still_run s i c.args.lane.now (g.L.Link.state c.args.link.now) at

pub returns-in-Ok-clause-runs : goal.returns-in-Ok-clause-runs
returns-in-Ok-clause-runs g c s i at =
    then_run s i c.args.lane.now c.send_due.new.lane c.send_due.new.lane (g.L.Link.state c.args.link.now) (g.L.Link.state c.send_due.new.link) (g.L.Link.state c.send_probe.new.link) (fault_of c.send_probe.result) at (c.in-Ok.ensures.runs s i at) c.send_probe.ensures.runs
