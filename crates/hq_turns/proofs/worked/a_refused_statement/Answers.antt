use Rattle.hq_turns.proofs.WorkedStatements.{refused, no-ask, not-idle}
use Rattle.hq_turns.proofs.worked.a_refused_statement.Goals as goal

pub returns : goal.returns
returns c = record { ended = refused; no_ask = no-ask; still_failed = not-idle }
