use Rattle.hq_dir.proofs.OwnNames.{own_names, begin_as_lanes}
use Rattle.hq_dir.proofs.laws.lane_files_have_names_of_their_own.Goals as goal

pub returns : goal.returns
returns c = record { own = own_names; begins = begin_as_lanes }
