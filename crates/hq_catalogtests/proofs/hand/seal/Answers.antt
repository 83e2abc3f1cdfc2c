-- A sealed lane is as long as before, and so is one whose flush failed.
use Rattle.std.proofs.Common.{List, [], ◌∷◌, ◌++◌, ◌∙◌, ap, refl}
use Rattle.hq_lane.specs.Lanes.{LaneState}
use Rattle.hq_catalogtests.specs.declared.hand.Held.TheVariants as held
use Rattle.hq_catalogtests.proofs.Worked.{held_stays, sealed_now, stays_as, torn_now}
use Rattle.hq_catalogtests.proofs.hand.seal.Goals as goal

pub returns-in-Ok : goal.returns-in-Ok
returns-in-Ok c =
    let sealed = c.in-Ok.lane in
    let these = c.push_reserved.ensures.items ∙ ap (λ (ls : List LaneState). ls ++ sealed ∷ []) c.reserve.ensures.items in
    sealed_now c.args.hand (record { sealed = c.push_reserved.new.self; held = held.Nothing }) c.in-Writes.lane sealed c.in-Writes.is these refl c.in-Ok.ensures.sealed.0 c.in-Ok.ensures.sealed.1

pub returns-in-Err : goal.returns-in-Err
returns-in-Err c =
    let l = c.in-Writes.lane in
    let torn = c.in-Err.lane in
    held_stays c.args.hand (record { sealed = c.reserve.new.self; held = held.Torn torn }) (held.Torn torn) c.reserve.ensures.items refl
    (stays_as c.args.hand.held (held.Writes l) (held.Torn torn) c.in-Writes.is (torn_now l torn c.in-Err.ensures.torn.0 c.in-Err.ensures.torn.1))
