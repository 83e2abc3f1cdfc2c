use Rattle.std.proofs.Common.{◌∙◌}
use Rattle.hq_exchange.proofs.Places.{made_more}
use Rattle.hq_exchange.proofs.lists.make_place.Goals as goal

pub places-preserved : goal.places-preserved
places-preserved c = λ n. made_more c.places.lists.items c.push.new.self.items c.new.result n c.in_ok-push.ensures.items c.new.ensures.items ∙ c.places.invariant n
