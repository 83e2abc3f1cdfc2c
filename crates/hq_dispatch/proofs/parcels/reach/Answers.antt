-- One empty list more.
use Rattle.std.proofs.Common.{◌∙◌}
use Rattle.hq_dispatch.proofs.Parceling.{made_same}
use Rattle.hq_dispatch.proofs.parcels.reach.Goals as goal

pub lists-preserved : goal.lists-preserved
lists-preserved c = λ n. made_same c.lists.lists.items c.push.new.self.items c.new.result c.in_ok-push.ensures.items c.new.ensures.items n ∙ c.lists.invariant n
