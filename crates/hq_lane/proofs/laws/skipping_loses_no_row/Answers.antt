use Rattle.hq_lane.proofs.FileBlocks.{all_passing, all_rows, all_bytes}
use Rattle.hq_lane.proofs.laws.skipping_loses_no_row.Goals as goal

pub returns-clause-passing : goal.returns-clause-passing
returns-clause-passing c = all_passing

pub returns-clause-all_rows : goal.returns-clause-all_rows
returns-clause-all_rows c = all_rows

pub returns-clause-all_bytes : goal.returns-clause-all_bytes
returns-clause-all_bytes c = all_bytes
