use Rattle.std.proofs.Common.{◌≡◌, ap, sym, ◌∙◌, refl, false, Ok, Err}
use Rattle.hq_link.specs.declared.link.LinkFault.TheVariants.{Failed, NoMemory}
use Rattle.hq_sim.specs.Acting.{SimState, has_failed, has_sent, send_left}
use Rattle.hq_sim.proofs.Meets.{sent_is, unfailing}
use Rattle.hq_sim.proofs.sim.SimLinkLink.send.Goals as goal

pub returns-then-takes_failure-clause-link : goal.returns-then-takes_failure-clause-link
returns-then-takes_failure-clause-link c =
    sent_is c.args.self.now c.args.bytes.now (Err Failed) c.fail.new.self c.takes_failure.ensures.counts
    (sym c.takes_failure.ensures.fails ∙ c.if-takes_failure.true, c.fail.ensures ∙ ap has_failed c.takes_failure.ensures.left)

pub returns-in-Ok-clause-link : goal.returns-in-Ok-clause-link
returns-in-Ok-clause-link c =
    let works = sym c.takes_failure.ensures.fails ∙ c.if-takes_failure.false in
    sent_is c.args.self.now c.args.bytes.now (Ok tt) c.keep.new.self c.takes_failure.ensures.counts
    (works, c.in-Ok.ensures.kept ∙ ap (λ (s : SimState). has_sent s c.args.bytes.now) (c.takes_failure.ensures.left ∙ unfailing c.args.self.now works))
