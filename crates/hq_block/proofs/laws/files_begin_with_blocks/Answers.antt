use Rattle.hq_block.proofs.Files.{first_block, other_blocks}
use Rattle.hq_block.proofs.laws.files_begin_with_blocks.Goals as goal

pub returns-clause-begins : goal.returns-clause-begins
returns-clause-begins c = first_block

pub returns-clause-rest : goal.returns-clause-rest
returns-clause-rest c = other_blocks
