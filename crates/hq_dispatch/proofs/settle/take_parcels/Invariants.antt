-- The rows of the nodes so far are taken, and those behind stay.
use Rattle.std.proofs.Common.{◌≡◌, ◌<◌, ◌≤◌, ℕ, length, slice_index_or, vec_len, vec_capacity}
use Rattle.hq_exec.specs.declared.end.FlowEnd.TheVariants as flow
use Rattle.hq_dispatch.specs.Parcels.{bytes_at, parcel_at}
use Rattle.hq_dispatch.specs.Settled.{AreSameHeads}
use Rattle.hq_dispatch.proofs.settle.take_parcels.Given as goal

abbrev pub invariant-loop-node : goal.invariant-loop-node
invariant-loop-node g l = record {
  heads : AreSameHeads l.initial.tasks.items l.tasks.items;
  rest : (k : ℕ) (d : _) → l.node ≤ k → slice_index_or l.tasks.items k d ≡ slice_index_or l.initial.tasks.items k d;
  count : length l.all.items ≡ l.node;
  len : vec_len l.all ≡ l.node;
  room : vec_len l.initial.tasks ≤ vec_capacity l.all;
  taken : (k : ℕ) (d : _) → k < l.node → (m : ℕ) → parcel_at l.all.items k m ≡ bytes_at (slice_index_or l.initial.tasks.items k d).parcels.lists.items m;
  done : (k : ℕ) (d : _) → k < l.node → (slice_index_or l.initial.tasks.items k d).end ≡ flow.Done;
}
