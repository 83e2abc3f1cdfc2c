use Rattle.hq_lane.proofs.FileBlocks.{their_rows, their_lengths}
use Rattle.hq_lane.proofs.laws.files_have_their_blocks.Goals as goal

pub returns-clause-rows : goal.returns-clause-rows
returns-clause-rows c = their_rows

pub returns-clause-lengths : goal.returns-clause-lengths
returns-clause-lengths c = their_lengths
