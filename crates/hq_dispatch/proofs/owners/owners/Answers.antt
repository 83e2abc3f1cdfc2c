-- The nodes to which the buckets are dealt.
use Rattle.std.proofs.Common.{◌≡◌, ◌∙◌, ◌<◌, ◌≤◌, ℕ, Bool, All, List, false, length, slice_index, slice_index_or, arith, rules, sym, ap, subst}
use Rattle.hq_meaning.specs.Nodes.{nodes_of}
use Rattle.hq_motion.specs.Split.{nodes_up}
use Rattle.hq_laws.specs.Dealt.{dealt}
use Rattle.hq_detect.specs.Assign.{owner_of}
use Rattle.hq_dispatch.specs.Owners.{owners}
use Rattle.hq_dispatch.proofs.Ups.{owners-dealt, some-are, all-of, dealt-first}
use Rattle.hq_dispatch.proofs.owners.owners.Goals as goal

pub returns : goal.returns
returns c =
    let marks : List Bool = c.args.marks.now in
    let few : length marks ≤ 16 = omega arith in
    let some : 0 < length (nodes_up marks) = some-are marks few c.requires in
    let long : length c.assign.result ≡ 16 = search rules in
    let are : c.assign.result ≡ owners marks = all-of (owner_of marks) c.assign.result long c.assign.ensures in
    let deal : c.assign.result ≡ dealt (nodes_up marks) = are ∙ owners-dealt marks few in
    let in_use : nodes_of c.assign.result ≡ nodes_up marks = ap nodes_of deal ∙ c.dealt_nodes_are_in_use.ensures.nodes (λ n. slice_index_or marks n false) some in
    record {
      owner = are;
      in_use = in_use;
      first = ap (λ (l : List ℕ). slice_index l 0) deal ∙ dealt-first (nodes_up marks) some ∙ sym (ap (λ (l : List ℕ). slice_index l 0) in_use);
      some = some;
      few = few;
      below = subst (All (λ n. n < 16)) (sym deal) (c.dealt_nodes_are_in_use.ensures.owner (λ n. slice_index_or marks n false) some).1;
    }
