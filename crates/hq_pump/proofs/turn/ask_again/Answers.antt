use Rattle.std.proofs.Common.{◌≡◌, List, Some, subst, ◌∙◌, refl, arith}
use Rattle.std.specs.Prelude.{slice_get, slice_set}
use Rattle.hq_pump.specs.declared.lane.Lane.{Lane}
use Rattle.hq_pump.specs.Exchange.{asked_again}
use Rattle.hq_pump.proofs.Turning.{place_read, set_length, front_read, front_set}
use Rattle.hq_pump.proofs.turn.ask_again.Goals as goal

pub loop-i-init : goal.loop-i-init
loop-i-init c = record { asked = refl; count = refl }

pub loop-i-preserved : goal.loop-i-preserved
loop-i-preserved c =
    let lane = c.index_mut-lane.result.now in
    let there = place_read c.loop-i.lanes.items c.loop-i.i lane (omega (arith, c.loop-i.invariant.count)) c.index_mut-lane.ensures.value in
    let was = front_read asked_again c.args.lanes.now.items c.loop-i.i lane (subst (λ (xs : List Lane). slice_get xs c.loop-i.i ≡ Some lane) c.loop-i.invariant.asked there) in
    record {
      asked = (λ k. slice_set (c.loop-i.invariant.asked k) c.loop-i.i (record lane { sender = c.on_quiet.ensures k })) ∙ front_set asked_again c.args.lanes.now.items c.loop-i.i lane was;
      count = set_length c.loop-i.lanes.items c.loop-i.i _ ∙ c.loop-i.invariant.count;
    }
