use Rattle.std.proofs.Common.{Some, subst, sym, ap}
use Rattle.hq_recv.specs.Taking.{Taker}
use Rattle.hq_link.specs.declared.link.LinkFault.TheVariants.{NoMemory}
use Rattle.hq_pump.specs.Exchange.{Run, fault_of}
use Rattle.hq_pump.specs.Pumping.{heard}
use Rattle.hq_pump.proofs.Hearing.{handed, gave_up}
use Rattle.hq_pump.proofs.hear.settle.Goals as goal

pub returns-in-Ok-clause-runs : goal.returns-in-Ok-clause-runs
returns-in-Ok-clause-runs g c s i at =
    handed s i c.args.lane.now (record c.args.lane.now { receiver = c.drain.new.self }) (g.L.Link.state c.args.link.now) (g.L.Link.state c.answer.new.link)
    (g.T.Take.taken c.args.take.now) (g.T.Take.taken c.drain.new.take) c.args.owes (fault_of c.answer.result) at
    (ap (λ (r : Taker). record c.args.lane.now { receiver = r }) c.in-Ok.ensures.state) c.in-Ok.ensures.more (λ t j f st. c.answer.ensures.runs t j f st (ap (λ (r : Taker). r.state.got) c.in-Ok.ensures.state))

pub returns-in-Err-clause-runs : goal.returns-in-Err-clause-runs
returns-in-Err-clause-runs g c s i at =
    subst (λ (r : Taker). Run s (heard s i (record c.args.lane.now { receiver = r }) (g.L.Link.state c.args.link.now) (g.T.Take.taken c.drain.new.take) (Some NoMemory))) (sym c.in-Err.ensures.err)
    (gave_up s i c.args.lane.now (g.L.Link.state c.args.link.now) (g.T.Take.taken c.args.take.now) (g.T.Take.taken c.drain.new.take) c.args.owes at c.in-Err.ensures.refused)
