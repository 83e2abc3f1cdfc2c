use Rattle.hq_algebra.proofs.Faultless.{faultless}
use Rattle.hq_algebra.proofs.laws.conditions_never_fault.Goals as goal

pub returns : goal.returns
returns c = faultless
