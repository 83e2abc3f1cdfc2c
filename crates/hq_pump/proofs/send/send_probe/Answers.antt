use Rattle.std.proofs.Common.{subst, sym, ◌∙◌, arith}
use Rattle.hq_link.specs.Gram.{gram_bytes}
use Rattle.hq_link.specs.Streams.{probe_of}
use Rattle.hq_pump.specs.Exchange.{Says, probe}
use Rattle.hq_pump.proofs.Steps.{sent_run}
use Rattle.hq_pump.proofs.send.send_probe.Goals as goal

pub returns-clause-runs : goal.returns-clause-runs
returns-clause-runs g c s i at =
    let lane = c.args.lane.now in
    let spelled = c.write-len.ensures.written ∙ (λ k. gram_bytes (probe_of (c.route.ensures k) (c.lowest.ensures k))) in
    sent_run s i lane lane (g.L.Link.state c.args.link.now) (g.L.Link.state c.send.new.self) _ c.send.result at
    (subst (λ b. Says lane b lane) (sym spelled) (probe (omega (arith, c.lowest.ensures)))) c.send.ensures
