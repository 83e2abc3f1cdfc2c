-- No task so far met a fault, and all went well where no memory was wanted.
use Rattle.std.proofs.Common.{◌≡◌, ◌<◌, ℕ, Ok, OnOk, slice_index_or}
use Rattle.std.specs.Prelude.{IsErrOf}
use Rattle.hq_txn.specs.Parts.{IsNoFault}
use Rattle.hq_txn.specs.declared.state.WriteEnd.TheVariants as end
use Rattle.hq_txn.proofs.tasks.first_fault.Given as goal

abbrev pub invariant-loop-node : goal.invariant-loop-node
invariant-loop-node g l = record {
  well : OnOk l.end ((k : ℕ) (d : _) → k < l.node → (slice_index_or l.tasks k d).outcome ≡ Ok tt);
  no_fault : (k : ℕ) (d : _) → k < l.node → IsNoFault (slice_index_or l.tasks k d).outcome;
  not_store : IsErrOf l.end end.Store → ⊥;
  not_host : (n : ℕ) → IsErrOf l.end (end.Host n) → ⊥;
}
