use Rattle.std.proofs.Common.{◌≡◌, ap, sym, ◌∙◌, drop}
use Rattle.hq_sim.proofs.Lists.{drop_one}
use Rattle.hq_sim.proofs.script.Acts.skip.Goals as goal

pub returns-then-self-len : goal.returns-then-self-len
returns-then-self-len c = drop_one c.self.inside.at c.self.inside.acts.items ∙ ap (drop 1) c.self.view_is
