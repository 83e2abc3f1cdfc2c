use Rattle.std.proofs.Common.{subst, ◌∙◌, arith}
use Rattle.hq_link.specs.Gram.{gram_bytes}
use Rattle.hq_link.specs.Link.{IsSent}
use Rattle.hq_link.specs.Streams.{ack_of}
use Rattle.hq_pump.proofs.Hearing.{answered}
use Rattle.hq_pump.proofs.hear.send_ack.Goals as goal

pub returns-clause-runs : goal.returns-clause-runs
returns-clause-runs g c s i taken at handed =
    let lane = c.args.lane.now in
    let spelled = c.write-len.ensures.written ∙ (λ k. gram_bytes (ack_of (c.route.ensures k) (c.on_probe.ensures k))) in
    answered s i lane (g.L.Link.state c.args.link.now) (g.L.Link.state c.send.new.self) taken c.send.result (omega (arith, c.on_probe.ensures)) handed
    at
    (subst (λ b. IsSent (g.L.Link.state c.args.link.now) b c.send.result (g.L.Link.state c.send.new.self)) spelled c.send.ensures)
