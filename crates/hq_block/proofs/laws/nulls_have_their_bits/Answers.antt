use Rattle.hq_block.proofs.RowLaws.{null_bitmap-bit}
use Rattle.hq_block.proofs.laws.nulls_have_their_bits.Goals as goal

pub returns : goal.returns
returns c = null_bitmap-bit
