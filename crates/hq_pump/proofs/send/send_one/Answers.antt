use Rattle.std.proofs.Common.{◌≡◌, None, Ok, Err, subst, sym, ◌∙◌, arith}
use Rattle.hq_send.specs.Sending.{Sending}
use Rattle.hq_pump.specs.Exchange.{Run}
use Rattle.hq_pump.specs.Pumping.{moved}
use Rattle.hq_pump.proofs.Steps.{says_due, sent_run, nothing_due, still_run, done_due}
use Rattle.hq_pump.proofs.send.send_one.Goals as goal

pub returns-in_default-clause-runs : goal.returns-in_default-clause-runs
returns-in_default-clause-runs g c s i at =
    let same : c.due.new.self ≡ c.args.lane.now.sender = c.due.ensures.after ∙ nothing_due c.args.lane.now.sender (sym c.in_default.is ∙ c.due.ensures.due) in
    subst (λ (x : Sending). Run s (moved s i (record c.args.lane.now { sender = x }) (g.L.Link.state c.args.link.now) None)) (sym same)
    (still_run s i c.args.lane.now (g.L.Link.state c.args.link.now) at)

pub returns-in-Err-clause-runs : goal.returns-in-Err-clause-runs
returns-in-Err-clause-runs g c s i at =
    let says = says_due c.args.lane.now c.due.new.self c.in-Some.n _ (omega arith) c.due.ensures.after (sym c.in-Some.ensures.due) c.in-Some.ensures.in_stream c.datagram-len.ensures.written in
    sent_run s i c.args.lane.now (record c.args.lane.now { sender = c.due.new.self }) (g.L.Link.state c.args.link.now) (g.L.Link.state c.send.new.self) _ (Err c.in-Err.fault) at says c.in-Err.ensures

pub returns-in-Ok-clause-runs : goal.returns-in-Ok-clause-runs
returns-in-Ok-clause-runs g c s i at =
    let says = says_due c.args.lane.now c.due.new.self c.in-Some.n _ (omega arith) c.due.ensures.after (sym c.in-Some.ensures.due) c.in-Some.ensures.in_stream c.datagram-len.ensures.written in
    sent_run s i c.args.lane.now (record c.args.lane.now { sender = c.due.new.self }) (g.L.Link.state c.args.link.now) (g.L.Link.state c.send.new.self) _ (Ok tt) at says c.in-Ok.ensures

pub returns-in_default-clause-done : goal.returns-in_default-clause-done
returns-in_default-clause-done g c = done_due c.args.lane.now c.due.new.self c.due.ensures.after

pub returns-in-Err-clause-done : goal.returns-in-Err-clause-done
returns-in-Err-clause-done g c = done_due c.args.lane.now c.due.new.self c.due.ensures.after

pub returns-in-Ok-clause-done : goal.returns-in-Ok-clause-done
returns-in-Ok-clause-done g c = done_due c.args.lane.now c.due.new.self c.due.ensures.after
