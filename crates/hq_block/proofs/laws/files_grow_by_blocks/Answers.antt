use Rattle.hq_block.proofs.Files.{one_block, files_joined}
use Rattle.hq_block.proofs.laws.files_grow_by_blocks.Goals as goal

pub returns-clause-block : goal.returns-clause-block
returns-clause-block c = one_block

pub returns-clause-joined : goal.returns-clause-joined
returns-clause-joined c = files_joined
