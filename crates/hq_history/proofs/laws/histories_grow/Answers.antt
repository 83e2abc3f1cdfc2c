use Rattle.hq_history.proofs.Entries.{by-push, by-pushed}
use Rattle.hq_history.proofs.Files.{IsHistory-push}
use Rattle.hq_history.proofs.laws.histories_grow.Goals as goal

pub returns-clause-own : goal.returns-clause-own
returns-clause-own c = by-push

pub returns-clause-others : goal.returns-clause-others
returns-clause-others c = by-pushed

pub returns-clause-deposits : goal.returns-clause-deposits
returns-clause-deposits c = IsHistory-push
