use Rattle.std.proofs.Common.{◌≡◌, ◌≤◌, ◌+◌, length, drop}
use Rattle.hq_detect.specs.Assign.{ups_from, nodes_up}
use Rattle.hq_detect.proofs.owners.count_up.Given as goal

abbrev pub invariant-loop-node : goal.invariant-loop-node
invariant-loop-node l = record {
  count : l.count + length (ups_from l.node (drop l.node l.marks)) ≡ length (nodes_up l.marks);
  few : l.count ≤ l.node;
}
