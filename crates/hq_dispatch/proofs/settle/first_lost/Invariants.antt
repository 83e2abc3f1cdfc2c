-- The exchanges so far went well.
use Rattle.std.proofs.Common.{◌≡◌, ◌<◌, ℕ, Ok, slice_index_or}
use Rattle.hq_dispatch.proofs.settle.first_lost.Given as goal

abbrev pub invariant-loop-node : goal.invariant-loop-node
invariant-loop-node g l = (k : ℕ) (d : _) → k < l.node → (slice_index_or l.tasks k d).got ≡ Ok tt
