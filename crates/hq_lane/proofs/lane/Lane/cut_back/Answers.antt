-- No cut changes an id.
use Rattle.std.proofs.Common.{◌∙◌}
use Rattle.hq_lane.proofs.lane.Lane.cut_back.Goals as goal

pub invariant_of-self : goal.invariant_of-self
invariant_of-self g c = λ b h. (c.cut_all.ensures.kept b h).id ∙ c.self.invariant b h
