use Rattle.hq_narrow.proofs.Taking.{mean-taken, rows-taken}
use Rattle.hq_narrow.proofs.laws.taking_columns_keeps_meaning.Goals as goal

pub returns-clause-mean : goal.returns-clause-mean
returns-clause-mean c = mean-taken

pub returns-clause-rows : goal.returns-clause-rows
returns-clause-rows c = rows-taken
