-- Each part that is popped gives its files.
use Rattle.std.proofs.Common.{◌≡◌, ℕ, ◌+◌, ◌<◌, ◌-◌, length, true, vec_len, arith, Some, ap, sym, ◌∙◌}
use Rattle.std.proofs.lemmas.Grind.{common_steps}
use Rattle.hq_lane.specs.Lanes.{LaneState, PartState, part_at, owns, no_part}
use Rattle.hq_lane.proofs.Merging.{given_more, same_ids}
use Rattle.hq_lane.proofs.part.LanePart.whole.Goals as goal

pub merge-requires : goal.merge-requires
merge-requires g c =
    let all = c.args.parts.items in
    let was = c.loop-part.parts in
    let now = c.pop-in-loop-part.new.self in
    let long : length all ≡ vec_len c.args.parts = omega (arith, c.args.parts.ok.0) in
    let ends : vec_len now + 1 ≡ vec_len was = c.in-Some-pop.ensures.cases in
    let k = vec_len now in
    let taken : Some c.in-Some-pop.part ≡ Some (part_at was.items (vec_len was - 1)) = c.in-Some-pop.ensures.value no_part (omega arith) in
    let e : c.in-Some-pop.part ≡ part_at all k = (let t = taken in let l = c.loop-part.invariant.left in grind (arith, common_steps)) in
    let some : 0 < vec_len c.args.parts = omega (arith, c.in-Some.ensures.cases) in
    let last : Some c.in-Some.last ≡ Some (part_at all (vec_len c.args.parts - 1)) = c.in-Some.ensures.value no_part some in
    let is_last : c.in-Some.last ≡ part_at all (vec_len c.args.parts - 1) = cc in
    let ids = same_ids all c.in-Some-pop.part c.in-Some.last k (vec_len c.args.parts - 1) c.take_apart-table.result.0 c.take_apart-table.result.1 c.requires.table c.requires.number e (omega arith) is_last (omega arith) c.take_apart-table.ensures.table c.take_apart-table.ensures.number in
    (omega arith, (omega arith, λ b h. c.loop-part.invariant.ids b h ∙ sym (ids b)))

pub loop-part-preserved : goal.loop-part-preserved
loop-part-preserved g c =
    let all = c.args.parts.items in
    let was = c.loop-part.parts in
    let now = c.pop-in-loop-part.new.self in
    let long : length all ≡ vec_len c.args.parts = omega (arith, c.args.parts.ok.0) in
    let ends : vec_len now + 1 ≡ vec_len was = c.in-Some-pop.ensures.cases in
    let k = vec_len now in
    let taken : Some c.in-Some-pop.part ≡ Some (part_at was.items (vec_len was - 1)) = c.in-Some-pop.ensures.value no_part (omega arith) in
    let e : c.in-Some-pop.part ≡ part_at all k = (let t = taken in let l = c.loop-part.invariant.left in grind (arith, common_steps)) in
    let once : (m n b : ℕ) → m < vec_len c.args.parts → n < vec_len c.args.parts → b < 16 → owns (part_at all m) b ≡ true → owns (part_at all n) b ≡ true → m ≡ n =
    λ m n b hm hn hb mine also. let one = c.requires.once b hb in one.only m (omega arith) mine ∙ sym (one.only n (omega arith) also) in
    let some : 0 < vec_len c.args.parts = omega (arith, c.in-Some.ensures.cases) in
    let last : Some c.in-Some.last ≡ Some (part_at all (vec_len c.args.parts - 1)) = c.in-Some.ensures.value no_part some in
    let is_last : c.in-Some.last ≡ part_at all (vec_len c.args.parts - 1) = cc in
    let ids = same_ids all c.in-Some-pop.part c.in-Some.last k (vec_len c.args.parts - 1) c.take_apart-table.result.0 c.take_apart-table.result.1 c.requires.table c.requires.number e (omega arith) is_last (omega arith) c.take_apart-table.ensures.table c.take_apart-table.ensures.number in
    record {
      ids = λ b h. c.merge.ensures.ids b h ∙ ids b;
      below = omega arith;
      left = (let r = c.in-Some-pop.ensures.rest in let l = c.loop-part.invariant.left in grind (arith, common_steps));
      given = given_more all c.in-Some-pop.part k (vec_len c.args.parts) c.loop-part.files c.merge.new.files e (omega arith) once c.merge.ensures.moved c.merge.ensures.others (λ n b lo hi bb own. c.loop-part.invariant.given n b (omega arith) hi bb own);
    }

pub returns : goal.returns
returns g c =
    let all = c.args.parts.items in
    let long : length all ≡ vec_len c.args.parts = omega (arith, c.args.parts.ok.0) in
    let some : 0 < vec_len c.args.parts = omega (arith, c.in-Some.ensures.cases) in
    let last : Some c.in-Some.last ≡ Some (part_at all (vec_len c.args.parts - 1)) = c.in-Some.ensures.value no_part some in
    let is_last : c.in-Some.last ≡ part_at all (vec_len c.args.parts - 1) = cc in
    record {
      table = ap (λ (l : LaneState). l.table) c.of.ensures ∙ c.take_apart-table.ensures.table ∙ ap (λ (p : PartState). p.table) is_last ∙ c.requires.table (vec_len c.args.parts - 1) (omega arith);
      number = ap (λ (l : LaneState). l.number) c.of.ensures ∙ c.take_apart-table.ensures.number ∙ ap (λ (p : PartState). p.number) is_last ∙ c.requires.number (vec_len c.args.parts - 1) (omega arith);
      files = λ n b h k own. rw c.of.ensures (c.loop-part.invariant.given n b (omega (arith, c.in_default-pop.ensures.cases)) (omega arith) k own);
    }
