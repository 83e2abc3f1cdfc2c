-- As the lane's type says.
use Rattle.std.proofs.Common.{subst}
use Rattle.hq_lane.specs.Lanes.{LaneState, HaveIds}
use Rattle.hq_lane.proofs.lane.Lane.stands.Goals as goal

pub returns : goal.returns
returns g c = subst (λ (s : LaneState). HaveIds s.table s.number s.files) c.self.view_is c.self.invariant
