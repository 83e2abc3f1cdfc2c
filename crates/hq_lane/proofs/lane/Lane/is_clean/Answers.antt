-- All are clean exactly where each is.
use Rattle.std.proofs.Common.{◌↔◌, IsTrue, subst, Bool, sym}
use Rattle.hq_lane.specs.Lanes.{LaneState, are_clean, AreClean}
use Rattle.hq_lane.proofs.Clean.{are_clean-exactly}
use Rattle.hq_lane.proofs.lane.Lane.is_clean.Goals as goal

pub returns-clause-exactly : goal.returns-clause-exactly
returns-clause-exactly g c =
    let files = c.self.inside.files in
    subst (λ (b : Bool). IsTrue b ↔ AreClean c.args.self.now.files) (sym c.all_clean.ensures.clean)
    (subst (λ (s : LaneState). IsTrue (are_clean files) ↔ AreClean s.files) c.self.view_is (are_clean-exactly files c.all_clean.ensures.sixteen))
