use Rattle.hq_block.proofs.Skipped.{skipped}
use Rattle.hq_block.proofs.laws.skipped_blocks_have_no_row.Goals as goal

pub returns : goal.returns
returns c = skipped
