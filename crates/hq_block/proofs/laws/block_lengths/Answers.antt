use Rattle.hq_block.proofs.Written.{length-block_bytes}
use Rattle.hq_block.proofs.laws.block_lengths.Goals as goal

pub returns : goal.returns
returns c = length-block_bytes
