-- One part more is made.
use Rattle.std.proofs.Common.{ℕ, ◌∙◌, Bool, List, false, slice_index_or, ap, arith}
use Rattle.std.proofs.lemmas.Grind.{common_steps}
use Rattle.hq_lane.specs.Lanes.{PartState}
use Rattle.hq_lane.proofs.Merging.{IsEmptyPart, pushed_more}
use Rattle.hq_lane.proofs.parts.make_parts.Goals as goal

pub loop-node-preserved : goal.loop-node-preserved
loop-node-preserved g c =
    let made = λ (n : ℕ) (p : PartState). IsEmptyPart c.args.table c.args.number c.args.owner.now n p in
    let here : IsEmptyPart c.args.table c.args.number c.args.owner.now c.loop-node.node c.empty.result = record { table = c.empty.ensures.table; lane = c.empty.ensures.number; owned = λ b h. ap (λ (here : List Bool). slice_index_or here b false) c.empty.ensures.here ∙ c.buckets_of-here.ensures b h } in
    record {
      len = grind (arith, common_steps);
      room = grind (arith, common_steps);
      made = λ n lt. rw c.push_sure.ensures.items
          (pushed_more made c.loop-node.parts.items c.empty.result c.loop-node.node (omega arith) here c.loop-node.invariant.made n lt);
    }
