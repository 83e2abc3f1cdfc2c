use Rattle.hq_pump.proofs.Safety.{safe_run}
use Rattle.hq_pump.proofs.laws.exchanges_are_safe.Goals as goal

pub returns : goal.returns
returns c query motion to first s t within run safe = safe_run query motion to first s t within run safe
