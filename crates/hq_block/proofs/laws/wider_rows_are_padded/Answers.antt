use Rattle.hq_block.proofs.Wider.{wider_block, wider_file}
use Rattle.hq_block.proofs.laws.wider_rows_are_padded.Goals as goal

pub returns-clause-block : goal.returns-clause-block
returns-clause-block c = wider_block

pub returns-clause-file : goal.returns-clause-file
returns-clause-file c = wider_file
