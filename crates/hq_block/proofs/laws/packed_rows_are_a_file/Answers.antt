use Rattle.hq_block.proofs.Packs.{pack_file, pack_step}
use Rattle.hq_block.proofs.laws.packed_rows_are_a_file.Goals as goal

pub returns-clause-file : goal.returns-clause-file
returns-clause-file c = pack_file

pub returns-clause-step : goal.returns-clause-step
returns-clause-step c = pack_step
