use Rattle.hq_block.proofs.Files.{rows_determined}
use Rattle.hq_block.proofs.laws.files_have_their_rows.Goals as goal

pub returns : goal.returns
returns c = rows_determined
