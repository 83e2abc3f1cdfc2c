-- The parts are those of one lane.
use Rattle.std.proofs.Common.{refl, rules}
use Rattle.hq_lane.specs.Lanes.{AreOneLane, HaveSameHeads}
use Rattle.hq_txntests.proofs.times.part_often.Goals as goal

pub whole-lane-requires : goal.whole-lane-requires
whole-lane-requires g c =
    let parts = c.in-Ok.parts.items in
    let same : HaveSameHeads parts parts = record { sixteen = refl; table = λ n. refl; number = λ n. refl; here = λ n. refl } in
    let one : AreOneLane parts = c.parts_make_a_lane.ensures.one _ _ parts parts c.owners-owner.ensures c.in-Ok.ensures.parts same in
    search rules
