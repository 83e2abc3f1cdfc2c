use Rattle.std.proofs.Common.{length, arith, ap, List, ℕ}
use Rattle.std.specs.List.{range_with_len}
use Rattle.std.proofs.lemmas.List.FromFn.{length-range_with_len}
use Rattle.hq_planner.proofs.Marked.{places-next, places-last, length-marked}
use Rattle.hq_planner.proofs.part.marked_places.Goals as goal

pub loop-place-preserved : goal.loop-place-preserved
loop-place-preserved c = places-next c.args.marks.now c.loop-place.place c.loop-place.places c.add_place.new.places c.loop-place-test.true c.loop-place.invariant c.in_ok-add_place.ensures

pub returns-clause-places : goal.returns-clause-places
returns-clause-places c = places-last c.args.marks.now c.loop-place.place c.loop-place.places c.loop-place-test.false c.loop-place.invariant

pub returns-clause-few : goal.returns-clause-few
returns-clause-few c =
    let all = places-last c.args.marks.now c.loop-place.place c.loop-place.places c.loop-place-test.false c.loop-place.invariant in
    omega (arith, ap (λ (l : List ℕ). length l) all, length-marked c.args.marks.now (range_with_len 0 (length c.args.marks.now)), length-range_with_len 0 (length c.args.marks.now), c.requires)
