use Rattle.hq_bind.proofs.Rows.{values_fit}
use Rattle.hq_bind.proofs.laws.inserted_rows_fit.Goals as goal

pub returns : goal.returns
returns c = λ table names tuples is none. values_fit table names tuples is.distinct none
