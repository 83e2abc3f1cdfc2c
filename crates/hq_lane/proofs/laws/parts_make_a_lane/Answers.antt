use Rattle.hq_lane.proofs.Parting.{one_lane, same_names, owners_places}
use Rattle.hq_lane.proofs.laws.parts_make_a_lane.Goals as goal

pub returns-clause-one : goal.returns-clause-one
returns-clause-one c = one_lane

pub returns-clause-table : goal.returns-clause-table
returns-clause-table c = same_names

pub returns-clause-places : goal.returns-clause-places
returns-clause-places c = owners_places
