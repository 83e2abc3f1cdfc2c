use Rattle.hq_log.proofs.Logs.{length-marks}
use Rattle.hq_log.proofs.laws.marks_follow_the_log.Goals as goal

pub returns-clause-nodes : goal.returns-clause-nodes
returns-clause-nodes c = length-marks
