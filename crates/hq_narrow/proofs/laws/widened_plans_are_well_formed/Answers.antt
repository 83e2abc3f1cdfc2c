use Rattle.hq_narrow.proofs.Form.{widened-well_formed}
use Rattle.hq_narrow.proofs.laws.widened_plans_are_well_formed.Goals as goal

pub returns : goal.returns
returns c = widened-well_formed
