-- The parts of the nodes below `node` are made.
use Rattle.std.proofs.Common.{◌≡◌, ℕ, ◌<◌, ◌≤◌, vec_len, vec_capacity}
use Rattle.hq_lane.specs.Lanes.{part_at}
use Rattle.hq_lane.proofs.Merging.{IsEmptyPart}
use Rattle.hq_lane.proofs.parts.make_parts.Given as goal

abbrev pub invariant-loop-node : goal.invariant-loop-node
invariant-loop-node g l = record {
  len : vec_len l.parts ≡ l.node;
  room : 16 ≤ vec_capacity l.parts;
  made : (n : ℕ) → n < l.node → IsEmptyPart l.table l.number l.owner n (part_at l.parts.items n);
}
