-- The tasks stay, and none so far met a fault.
use Rattle.std.proofs.Common.{◌≡◌, ◌<◌, ℕ, slice_index_or}
use Rattle.hq_dispatch.specs.Running.{IsNoFault}
use Rattle.hq_dispatch.proofs.settle.first_fault.Given as goal

abbrev pub invariant-loop-node : goal.invariant-loop-node
invariant-loop-node g l = record {
  same : l.tasks.items ≡ l.initial.tasks.items;
  fine : (k : ℕ) (d : _) → k < l.node → IsNoFault (slice_index_or l.initial.tasks.items k d).end;
}
