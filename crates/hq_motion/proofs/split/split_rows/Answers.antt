use Rattle.std.proofs.Common.{◌≡◌, [], ◌∷◌, ℕ, List, map, slice_index, sym, ap, ◌∙◌}
use Rattle.std.specs.Result.{IfOk}
use Rattle.hq_value.specs.declared.value.Value.{Value}
use Rattle.hq_meaning.specs.Nodes.{nodes_of}
use Rattle.hq_motion.specs.Lists.{listed}
use Rattle.hq_motion.specs.Split.{split}
use Rattle.hq_motion.proofs.Splitting.{gathered, redistributed, if_ok-then}
use Rattle.hq_motion.proofs.split.split_rows.Goals as goal

pub returns-in-Gather : goal.returns-in-Gather
returns-in-Gather c =
    let up : c.as_slice.result.now ≡ nodes_of c.args.owner.now = c.as_slice.ensures.value ∙ c.in_ok-up.ensures ∙ sym c.requires.in_use in
    rw c.in-Gather.is (if_ok-then (λ lists. listed lists.items) c.to_one.result _ _ (gathered c.args.owner.now c.as_slice.result.now c.args.rows.items up) c.to_one.ensures)

pub returns-in-Broadcast : goal.returns-in-Broadcast
returns-in-Broadcast c =
    let up : c.as_slice-in-Broadcast.result.now ≡ nodes_of c.args.owner.now = c.as_slice-in-Broadcast.ensures.value ∙ c.in_ok-up.ensures ∙ sym c.requires.in_use in
    rw c.in-Broadcast.is (if_ok-then (λ lists. listed lists.items) c.to_each.result _ _ (ap (map (λ n. (n, c.args.rows.items))) up) c.to_each.ensures)

pub returns-in-Redistribute : goal.returns-in-Redistribute
returns-in-Redistribute c =
    rw c.in-Redistribute.is (if_ok-then (λ lists. listed lists.items) c.of_nodes.result _ _ (redistributed c.args.owner.now c.in-Redistribute.keys c.args.nodes.now c.args.rows.items c.in_ok-lists-in-Redistribute.lists.items c.requires.in_use c.in_ok-lists-in-Redistribute.ensures.lists) c.of_nodes.ensures)
