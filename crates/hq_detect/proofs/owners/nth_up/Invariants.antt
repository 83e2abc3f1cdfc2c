use Rattle.std.proofs.Common.{◌≡◌, drop, slice_index_or}
use Rattle.hq_detect.specs.Assign.{ups_from, nodes_up}
use Rattle.hq_detect.proofs.owners.nth_up.Given as goal

abbrev pub invariant-loop-node : goal.invariant-loop-node
invariant-loop-node l = slice_index_or (ups_from l.node (drop l.node l.marks)) l.left 0 ≡ slice_index_or (nodes_up l.marks) l.place 0
