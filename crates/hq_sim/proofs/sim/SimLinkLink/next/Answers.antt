use Rattle.std.proofs.Common.{◌≡◌, ap, sym, subst, ◌∙◌}
use Rattle.hq_sim.specs.declared.act.Act.{Act}
use Rattle.hq_sim.specs.Acting.{SimState, HasActed, turned}
use Rattle.hq_sim.proofs.Meets.{next_is}
use Rattle.hq_sim.proofs.sim.SimLinkLink.next.Goals as goal

pub returns-clause-link : goal.returns-clause-link
returns-clause-link c =
    next_is c.args.self.now c.perform.result c.perform.new.into c.perform.new.self c.take_act-act.ensures.counts c.take_act-act.ensures.within
    (subst (λ (a : Act). HasActed a (turned c.args.self.now) c.perform.result c.perform.new.into c.perform.new.self) c.take_act-act.ensures.act
    (subst (λ (s : SimState). HasActed c.take_act-act.result s c.perform.result c.perform.new.into c.perform.new.self) c.take_act-act.ensures.left c.perform.ensures))
