use Rattle.hq_log.proofs.Logs.{IsLegal-push}
use Rattle.hq_log.proofs.laws.legal_logs_grow.Goals as goal

pub returns : goal.returns
returns c = IsLegal-push
