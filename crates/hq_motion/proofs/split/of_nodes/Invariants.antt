use Rattle.std.proofs.Common.{◌≡◌, ◌+◌, false, filter, get_or, map, drop, length}
use Rattle.std.specs.List.{range_with_len}
use Rattle.hq_motion.specs.Lists.{list_at, listed}
use Rattle.hq_motion.proofs.split.of_nodes.Given as goal

abbrev pub invariant-loop-list : goal.invariant-loop-list
invariant-loop-list l = record {
  found : listed l.found.items ≡ map (λ n. (n, list_at l.fn.lists.items n)) (filter (λ n. get_or l.nodes n false) (range_with_len 0 l.node));
  rest : l.list-iterator.rest.items ≡ drop l.node l.fn.lists.items;
  count : l.node + length l.list-iterator.rest.items ≡ 16;
}
