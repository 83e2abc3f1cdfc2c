use Rattle.std.proofs.Common.{◌≡◌, ℕ, suc, ◌+◌, ◌++◌, List, drop, length, ap, sym, ◌∙◌, arith}
use Rattle.std.specs.Prelude.{slice_set}
use Rattle.std.proofs.lemmas.List.{length-append}
use Rattle.hq_stream.specs.Receiving.{taken}
use Rattle.hq_recv.proofs.Places.{one_emptied, at_place, one_taken, none_taken, end_taken, first_empty}
use Rattle.hq_recv.proofs.receiver.take_front.Goals as goal

pub returns-in-End-clause-slots : goal.returns-in-End-clause-slots
returns-in-End-clause-slots c =
    ap (λ s. slice_set c.loop-i.slots.items c.loop-i.i s) c.give.ensures.empty
    ∙ one_emptied c.loop-i.i c.loop-i.slots.items c.args.slots.now.items c.loop-i.invariant.places (omega (arith, c.requires.places))

pub loop-i-preserved : goal.loop-i-preserved
loop-i-preserved c =
    let gave = c.in-Bytes.ensures.gave in
    let front = at_place c.loop-i.i c.loop-i.slots.items c.args.slots.now.items c.index_mut-slot.result.now c.index_mut-slot.result.now c.loop-i.invariant.places (omega (arith, c.requires.places)) c.index_mut-slot.ensures.value in
    record {
      places = ap (λ s. slice_set c.loop-i.slots.items c.loop-i.i s) c.give.ensures.empty
          ∙ one_emptied c.loop-i.i c.loop-i.slots.items c.args.slots.now.items c.loop-i.invariant.places (omega (arith, c.requires.places));
      so_far = λ wanted. c.loop-i.invariant.so_far wanted ∙ one_taken wanted c.loop-i.i c.loop-i.got.items c.args.slots.now.items c.index_mut-slot.result.now gave.0 c.give.new.got.items front gave.1 gave.2;
      room = omega (arith, c.loop-i.invariant.room, c.give.ensures.room, c.give.ensures.len);
    }

pub loop-i-init : goal.loop-i-init
loop-i-init c = record {
  places = first_empty c.args.slots.now.items c.requires.places c.requires.waiting;
  so_far = λ wanted. (λ i. taken (let e : suc wanted ≡ wanted + 1 = omega arith in e i) (sym c.append_sure.ensures.items i) (drop 1 c.args.slots.now.items));
  room = omega (arith, c.append_sure.ensures.len, c.append_sure.ensures.capacity);
}

pub returns-in-Empty-clause-taken : goal.returns-in-Empty-clause-taken
returns-in-Empty-clause-taken c =
    let gave = c.in-Empty.ensures.gave in
    let front = at_place c.loop-i.i c.loop-i.slots.items c.args.slots.now.items c.index_mut-slot.result.now c.index_mut-slot.result.now c.loop-i.invariant.places (omega (arith, c.requires.places)) c.index_mut-slot.ensures.value in
    record { taken_is = λ wanted. c.loop-i.invariant.so_far wanted ∙ none_taken wanted c.loop-i.i c.loop-i.got.items c.give.new.got.items c.args.slots.now.items c.index_mut-slot.result.now front gave.0 gave.1 }

pub returns-in-End-clause-taken : goal.returns-in-End-clause-taken
returns-in-End-clause-taken c =
    let gave = c.in-End.ensures.gave in
    let front = at_place c.loop-i.i c.loop-i.slots.items c.args.slots.now.items c.index_mut-slot.result.now c.index_mut-slot.result.now c.loop-i.invariant.places (omega (arith, c.requires.places)) c.index_mut-slot.ensures.value in
    record { taken_is = λ wanted. c.loop-i.invariant.so_far wanted ∙ end_taken wanted c.loop-i.i c.loop-i.got.items c.give.new.got.items c.args.slots.now.items c.index_mut-slot.result.now front gave.0 gave.1 }
