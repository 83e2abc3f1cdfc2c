-- No seal changes an id, and the lane's files are those of the value.
use Rattle.std.proofs.Common.{◌∙◌, subst, sym, arith}
use Rattle.hq_lane.specs.Lanes.{LaneState, AreFlushed}
use Rattle.hq_lane.proofs.lane.Lane.seal_all.Goals as goal

pub seal_each-requires : goal.seal_each-requires
seal_each-requires g c = (omega arith, subst (λ (s : LaneState). AreFlushed s.files) (sym c.self.view_is) c.requires)

pub invariant_of-self : goal.invariant_of-self
invariant_of-self g c = λ b h. (c.seal_each.ensures.kept b h).id ∙ c.self.invariant b h
