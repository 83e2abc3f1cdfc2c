use Rattle.hq_block.proofs.BlockLaws as law
use Rattle.hq_block.proofs.laws.blocks_are_apart.Goals as goal

pub returns : goal.returns
returns c = law.blocks_are_apart
