use Rattle.hq_turns.proofs.Following.{goes-on}
use Rattle.hq_turns.proofs.laws.statements_follow_one_another.Goals as goal

pub returns : goal.returns
returns c = goes-on
