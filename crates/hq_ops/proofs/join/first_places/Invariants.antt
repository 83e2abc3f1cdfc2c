use Rattle.std.proofs.Common.{◌≡◌, map, take}
use Rattle.hq_ops.specs.Chains.{begins_at}
use Rattle.hq_ops.proofs.join.first_places.Given as goal

abbrev pub invariant-loop-row : goal.invariant-loop-row
invariant-loop-row l = l.firsts.items ≡ map (begins_at l.keys l.right.first.items) (take l.row-index l.left)
