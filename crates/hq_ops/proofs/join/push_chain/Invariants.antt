use Rattle.std.proofs.Common.{◌-◌, ℕ, List, length}
use Rattle.hq_ops.specs.Chains.{Linked}
use Rattle.hq_ops.proofs.Chaining.{Walks}
use Rattle.hq_ops.proofs.join.push_chain.Given as goal

abbrev pub invariant-chain : goal.invariant-chain
invariant-chain l = (all : List ℕ) → Linked l.right.next.items l.initial.place all → Walks l.right.next.items l.keys l.right.keys.now l.left l.right.rows.now l.found.items l.initial.found.items l.place all

abbrev pub decreases-chain : goal.decreases-chain
decreases-chain l = length l.right.rows.now - l.place
