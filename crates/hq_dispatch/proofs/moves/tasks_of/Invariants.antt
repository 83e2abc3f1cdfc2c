-- What has moved, then what is left, is what there was.
use Rattle.std.proofs.Common.{◌≡◌, ◌+◌, ◌≤◌, ◌++◌, [], All, vec_len, vec_capacity}
use Rattle.hq_dispatch.specs.Ended.{benches_of}
use Rattle.hq_dispatch.proofs.moves.tasks_of.Given as goal

abbrev pub invariant-loop-alloc : goal.invariant-loop-alloc
invariant-loop-alloc g l = record {
  benches : benches_of l.tasks.items ++ l.benches.items ≡ l.initial.benches.items;
  none : All (λ t. t.incoming.items ≡ []) l.tasks.items;
  len : vec_len l.tasks + vec_len l.benches ≡ vec_len l.initial.benches;
  room : vec_len l.tasks + vec_len l.benches ≤ vec_capacity l.tasks;
  kept : vec_capacity l.initial.benches ≤ vec_capacity l.benches;
}

abbrev pub decreases-loop-alloc : goal.decreases-loop-alloc
decreases-loop-alloc g l = vec_len l.benches
