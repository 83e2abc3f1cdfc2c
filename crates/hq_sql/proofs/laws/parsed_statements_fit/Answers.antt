use Rattle.hq_sql.proofs.Fits.{parsed_fits}
use Rattle.hq_sql.proofs.laws.parsed_statements_fit.Goals as goal

pub returns : goal.returns
returns c = λ text s h. parsed_fits text s h
