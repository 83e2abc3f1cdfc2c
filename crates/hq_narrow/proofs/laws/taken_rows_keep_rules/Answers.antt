use Rattle.hq_narrow.proofs.Keyed.{keys-stand, rows-fit}
use Rattle.hq_narrow.proofs.laws.taken_rows_keep_rules.Goals as goal

pub returns-clause-fit : goal.returns-clause-fit
returns-clause-fit c = rows-fit

pub returns-clause-stand : goal.returns-clause-stand
returns-clause-stand c = keys-stand
