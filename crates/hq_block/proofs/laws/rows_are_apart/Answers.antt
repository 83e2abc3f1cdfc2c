use Rattle.hq_block.proofs.RowLaws as law
use Rattle.hq_block.proofs.laws.rows_are_apart.Goals as goal

pub returns-clause-apart : goal.returns-clause-apart
returns-clause-apart c = law.rows_are_apart
