use Rattle.std.proofs.Common.{None, Ok, subst, refl, arith}
use Rattle.hq_link.specs.declared.link.Got.{Got}
use Rattle.hq_link.specs.Link.{IsNext}
use Rattle.hq_pump.specs.Pumping.{at}
use Rattle.hq_pump.proofs.Listening.{rest_run, fail_run}
use Rattle.hq_pump.proofs.Work.{bytes_less, quiet_less, ok_less}
use Rattle.hq_pump.proofs.turn.listen.Goals as goal

pub returns-in-Err-clause-runs : goal.returns-in-Err-clause-runs
returns-in-Err-clause-runs g c ready =
    fail_run c.args.lanes.now.items (g.L.Link.state c.args.link.now) (g.L.Link.state c.next.new.self) c.args.base (g.T.Take.taken c.args.take.now) c.next.new.into _ ready c.in-Err.ensures

pub returns-in-Ok-Bytes-clause-runs : goal.returns-in-Ok-Bytes-clause-runs
returns-in-Ok-Bytes-clause-runs g c ready =
    c.hear.ensures.runs (at c.args.lanes.now.items (g.L.Link.state c.args.link.now) c.args.base (g.T.Take.taken c.args.take.now) None) c.in-Ok-Bytes.len c.next.new.into
    (record { ready = ready; lanes_are = refl; base_is = refl; next = (subst (λ (x : Got). IsNext (g.L.Link.state c.args.link.now) (Ok x) c.next.new.into (g.L.Link.state c.next.new.self)) c.in-Ok-Bytes.field-0-is c.in-Ok-Bytes.ensures); bytes_are = refl; taken_is = refl })

pub returns-in-Ok-Bytes-clause-less : goal.returns-in-Ok-Bytes-clause-less
returns-in-Ok-Bytes-clause-less g c few lt =
    ok_less c.hear.result c.hear.new.lanes.items (g.L.Link.state c.hear.new.link) c.args.lanes.now.items (g.L.Link.state c.next.new.self) (g.L.Link.state c.args.link.now) c.args.base _ c.hear.ensures.less (bytes_less (g.L.Link.state c.args.link.now) (g.L.Link.state c.next.new.self) c.in-Ok-Bytes.len c.next.new.into c.args.base (subst (λ (x : Got). IsNext (g.L.Link.state c.args.link.now) (Ok x) c.next.new.into (g.L.Link.state c.next.new.self)) c.in-Ok-Bytes.field-0-is c.in-Ok-Bytes.ensures) lt)

pub returns-in-Ok-clause-runs : goal.returns-in-Ok-clause-runs
returns-in-Ok-clause-runs g c ready =
    rest_run c.args.lanes.now.items (g.L.Link.state c.args.link.now) (g.L.Link.state c.next.new.self) c.args.base (g.T.Take.taken c.args.take.now) c.next.new.into _ ready (subst (λ (x : Got). IsNext (g.L.Link.state c.args.link.now) (Ok x) c.next.new.into (g.L.Link.state c.next.new.self)) c.in-Ok-Quiet.field-0-is c.in-Ok-Quiet.ensures) (c.in-Ok.ensures.runs c.args.base (g.T.Take.taken c.args.take.now))

pub returns-in-Ok-clause-less : goal.returns-in-Ok-clause-less
returns-in-Ok-clause-less g c few lt =
    let le = quiet_less (g.L.Link.state c.args.link.now) (g.L.Link.state c.next.new.self) c.next.new.into c.args.base (subst (λ (x : Got). IsNext (g.L.Link.state c.args.link.now) (Ok x) c.next.new.into (g.L.Link.state c.next.new.self)) c.in-Ok-Quiet.field-0-is c.in-Ok-Quiet.ensures) lt in
    omega (arith, le, few, c.in-Ok.ensures.less c.args.base)

pub returns-in-Err-rest-clause-runs : goal.returns-in-Err-rest-clause-runs
returns-in-Err-rest-clause-runs g c ready =
    rest_run c.args.lanes.now.items (g.L.Link.state c.args.link.now) (g.L.Link.state c.next.new.self) c.args.base (g.T.Take.taken c.args.take.now) c.next.new.into _ ready (subst (λ (x : Got). IsNext (g.L.Link.state c.args.link.now) (Ok x) c.next.new.into (g.L.Link.state c.next.new.self)) c.in-Ok-Quiet.field-0-is c.in-Ok-Quiet.ensures) (c.in-Err-rest.ensures.runs c.args.base (g.T.Take.taken c.args.take.now))
