use Rattle.hq_value.proofs.Fitting.{keys-in_row}
use Rattle.hq_value.proofs.laws.rows_that_fit_have_their_keys.Goals as goal

pub returns : goal.returns
returns c = keys-in_row
