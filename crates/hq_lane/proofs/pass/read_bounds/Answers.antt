-- What the head and the bounds say of the block's length, and why bytes begin with no block.
use Rattle.std.proofs.Common.{ℕ, List, length, Err, ap, subst, arith}
use Rattle.hq_block.specs.declared.head.BlockHead.{BlockHead}
use Rattle.hq_block.specs.Heads.{HeadLength, HeadIs}
use Rattle.hq_lane.proofs.Passing.{front_is, length_within, begun_whole, no_head_begins_none, no_bounds_begin_none}
use Rattle.hq_lane.proofs.pass.read_bounds.Goals as goal

pub returns-in_default-clause-bad : goal.returns-in_default-clause-bad
returns-in_default-clause-bad g c = λ _ more.
    no_head_begins_none c.args.kinds.now c.args.bytes.now.items more (omega (arith, c.requires.front, c.args.bytes.now.ok.0))
    (subst (λ (l : List ℕ). (n : ℕ) → HeadLength l n → ⊥) c.deref.ensures.value c.in_default.ensures.none)

pub returns-in-Ok-clause-begun : goal.returns-in-Ok-clause-begun
returns-in-Ok-clause-begun g c =
    let here : HeadLength c.args.bytes.now.items c.in-Some.front = subst (λ (l : List ℕ). HeadLength l c.in-Some.front) c.deref.ensures.value c.in-Some.ensures.found in
    begun_whole c.args.bytes.now.items c.fill.new.bytes.items c.in-Some.front here c.in_ok-fill.ensures.front (omega (arith, c.in_ok-fill.ensures.long, c.fill.new.bytes.ok.0))

pub returns-in-Ok-clause-long : goal.returns-in-Ok-clause-long
returns-in-Ok-clause-long g c =
    let here : HeadLength c.args.bytes.now.items c.in-Some.front = subst (λ (l : List ℕ). HeadLength l c.in-Some.front) c.deref.ensures.value c.in-Some.ensures.found in
    let begun : HeadLength c.fill.new.bytes.items (length c.fill.new.bytes.items) =
    begun_whole c.args.bytes.now.items c.fill.new.bytes.items c.in-Some.front here c.in_ok-fill.ensures.front (omega (arith, c.in_ok-fill.ensures.long, c.fill.new.bytes.ok.0)) in
    let front = front_is c.args.kinds.now c.in-Ok.head c.fill.new.bytes.items begun (subst (HeadIs c.args.kinds.now c.in-Ok.head) c.deref-2.ensures.value c.in-Ok.ensures.found) in
    omega (arith, front.long, c.fill.new.bytes.ok.0)

pub returns-in-Ok-clause-within : goal.returns-in-Ok-clause-within
returns-in-Ok-clause-within g c =
    let here : HeadLength c.args.bytes.now.items c.in-Some.front = subst (λ (l : List ℕ). HeadLength l c.in-Some.front) c.deref.ensures.value c.in-Some.ensures.found in
    omega (arith, (length_within c.args.bytes.now.items c.in-Some.front here).1, c.requires.size, c.in_ok-fill.ensures.long)

pub returns-in-Err-NotABlock-clause-bad : goal.returns-in-Err-NotABlock-clause-bad
returns-in-Err-NotABlock-clause-bad g c = λ _ more.
    let here : HeadLength c.args.bytes.now.items c.in-Some.front = subst (λ (l : List ℕ). HeadLength l c.in-Some.front) c.deref.ensures.value c.in-Some.ensures.found in
    let begun : HeadLength c.fill.new.bytes.items (length c.fill.new.bytes.items) =
    begun_whole c.args.bytes.now.items c.fill.new.bytes.items c.in-Some.front here c.in_ok-fill.ensures.front (omega (arith, c.in_ok-fill.ensures.long, c.fill.new.bytes.ok.0)) in
    no_bounds_begin_none c.args.kinds.now c.fill.new.bytes.items more begun
    (subst (λ (l : List ℕ). (head : BlockHead) → HeadIs c.args.kinds.now head l → ⊥) c.deref-2.ensures.value (c.in-Err-NotABlock.ensures.not_a_block (ap Err c.in-Err-NotABlock.field-0-is)))
