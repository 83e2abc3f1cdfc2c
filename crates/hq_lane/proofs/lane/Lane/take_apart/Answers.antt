-- As the type says.
use Rattle.std.proofs.Common.{subst}
use Rattle.hq_lane.specs.Lanes.{LaneState, HaveIds}
use Rattle.hq_lane.proofs.lane.Lane.take_apart.Goals as goal

pub returns-clause-ids : goal.returns-clause-ids
returns-clause-ids g c = subst (λ (s : LaneState). HaveIds s.table s.number s.files) c.self.view_is c.self.invariant
