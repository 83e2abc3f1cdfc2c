use Rattle.hq_locktests.proofs.Logs.{noted_or_not}
use Rattle.hq_locktests.proofs.ledger.LedgerAnswering.answer.Goals as goal

pub returns-clause-one : goal.returns-clause-one
returns-clause-one c = noted_or_not c.args.session c.args.statement _ _ c.note.ensures
