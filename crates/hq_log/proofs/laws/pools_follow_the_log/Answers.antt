use Rattle.hq_log.proofs.Logs.{length-pool}
use Rattle.hq_log.proofs.laws.pools_follow_the_log.Goals as goal

pub returns-clause-lanes : goal.returns-clause-lanes
returns-clause-lanes c = length-pool
