use Rattle.hq_history.proofs.Places.{placed}
use Rattle.hq_history.proofs.laws.entries_have_places.Goals as goal

pub returns : goal.returns
returns c = placed
