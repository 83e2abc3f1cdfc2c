use Rattle.hq_history.proofs.Entries.{starts_shorter}
use Rattle.hq_history.proofs.laws.beginnings_are_ordered.Goals as goal

pub returns : goal.returns
returns c = starts_shorter
