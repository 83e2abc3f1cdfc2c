use Rattle.std.proofs.Common.{◌||◌, sym, ap, ◌∙◌, arith}
use Rattle.hq_link.specs.Streams.{is_probe_of}
use Rattle.hq_recv.specs.Taking.{Taker}
use Rattle.hq_pump.specs.Exchange.{fault_of, answers}
use Rattle.hq_pump.proofs.Hearing.{heard_run, missed_run, owes_no_ack}
use Rattle.hq_pump.proofs.Work.{answer_less}
use Rattle.hq_pump.proofs.hear.receive.Goals as goal

pub returns-in-Ok-clause-runs : goal.returns-in-Ok-clause-runs
returns-in-Ok-clause-runs g c s i count into arrives no_ack =
    heard_run s i count into c.args.bytes.now c.args.lane.now (record c.args.lane.now { receiver = c.accept.new.self }) (g.L.Link.state c.args.link.now) (g.L.Link.state c.settle.new.link)
    (g.T.Take.taken c.args.take.now) (g.T.Take.taken c.settle.new.take) c.owes-owed.result (fault_of c.settle.result) arrives no_ack
    (ap (λ (r : Taker). record c.args.lane.now { receiver = r }) c.in-Ok.ensures.state)
    (c.owes-owed.ensures ∙ (λ k. answers (c.in-Ok.ensures.took k) || is_probe_of ((c.route.ensures ∙ ap (λ (r : Taker). r.route) c.in-Ok.ensures.state) k) c.args.bytes.now)) c.settle.new.lane c.settle.ensures.runs

pub returns-in-Ok-clause-less : goal.returns-in-Ok-clause-less
returns-in-Ok-clause-less g c =
    let owing = c.owes-owed.ensures ∙ (λ k. answers (c.in-Ok.ensures.took k) || is_probe_of ((c.route.ensures ∙ ap (λ (r : Taker). r.route) c.in-Ok.ensures.state) k) c.args.bytes.now) in
    answer_less c.owes-owed.result c.settle.result (g.L.Link.state c.args.link.now) (g.L.Link.state c.settle.new.link) _
    (λ e. owes_no_ack c.args.lane.now.receiver c.args.bytes.now (λ j. omega (arith, c.type_inv.bytes j)) (sym owing ∙ e))
    (λ e. ap g.L.Link.state (c.settle.ensures.quiet e)) c.settle.ensures.less

pub returns-in-Err-clause-runs : goal.returns-in-Err-clause-runs
returns-in-Err-clause-runs g c s i count into arrives no_ack =
    missed_run s i count into c.args.bytes.now c.args.lane.now (record c.args.lane.now { receiver = c.accept.new.self }) (g.L.Link.state c.args.link.now) (g.T.Take.taken c.args.take.now) arrives
    (ap (λ (r : Taker). record c.args.lane.now { receiver = r }) c.in-Err.ensures.err)
