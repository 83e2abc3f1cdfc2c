use Rattle.hq_laws.proofs.Guarded.{gathered-guards, spread-guards}
use Rattle.hq_laws.proofs.plans.scans_stand_under_their_guards.Goals as goal

pub returns-clause-gathered : goal.returns-clause-gathered
returns-clause-gathered c = gathered-guards

pub returns-clause-joined : goal.returns-clause-joined
returns-clause-joined c = spread-guards
