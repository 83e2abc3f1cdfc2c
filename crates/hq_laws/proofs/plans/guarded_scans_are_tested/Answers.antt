use Rattle.hq_laws.proofs.FromGuards.{tested-from}
use Rattle.hq_laws.proofs.plans.guarded_scans_are_tested.Goals as goal

pub returns : goal.returns
returns c = tested-from
