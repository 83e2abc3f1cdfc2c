use Rattle.hq_sql.proofs.Statements.{one_reading}
use Rattle.hq_sql.proofs.laws.one_reading.Goals as goal

pub returns : goal.returns
returns c = λ text s t h h'. one_reading text s t h h'
