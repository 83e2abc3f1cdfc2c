use Rattle.hq_turns.proofs.WorkedStatements.{store-failed, no-cause, not-given-back}
use Rattle.hq_turns.proofs.worked.a_store_that_fails.Goals as goal

pub returns : goal.returns
returns c = record { ended = store-failed; no_cause = no-cause; not_given_back = not-given-back }
