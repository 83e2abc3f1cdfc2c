use Rattle.hq_narrow.proofs.Guarding.{scans-guarded}
use Rattle.hq_narrow.proofs.laws.taken_scans_stand_under_their_guards.Goals as goal

pub returns : goal.returns
returns c = scans-guarded
