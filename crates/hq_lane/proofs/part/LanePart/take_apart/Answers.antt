-- As the type says.
use Rattle.hq_lane.proofs.part.LanePart.take_apart.Goals as goal

pub returns-clause-ids : goal.returns-clause-ids
returns-clause-ids g c = c.self.invariant
