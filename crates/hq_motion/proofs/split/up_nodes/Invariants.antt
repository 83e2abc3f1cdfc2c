use Rattle.std.proofs.Common.{◌≡◌, false, filter, get_or}
use Rattle.std.specs.List.{range_with_len}
use Rattle.hq_motion.proofs.split.up_nodes.Given as goal

abbrev pub invariant-loop-node : goal.invariant-loop-node
invariant-loop-node l = l.up.items ≡ filter (λ n. get_or l.nodes n false) (range_with_len 0 l.node)
