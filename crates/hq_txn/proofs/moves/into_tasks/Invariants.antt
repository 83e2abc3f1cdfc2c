-- What has moved, then what is left, is what there was.
use Rattle.std.proofs.Common.{◌≡◌, ◌+◌, ◌≤◌, ◌++◌, map, vec_len, vec_capacity}
use Rattle.hq_txn.proofs.moves.into_tasks.Given as goal

abbrev pub invariant-loop-alloc : goal.invariant-loop-alloc
invariant-loop-alloc g l = record {
  enough : vec_len l.benches ≤ vec_len l.parts;
  benches : map (λ t. t.bench) l.tasks.items ++ l.benches.items ≡ l.initial.benches.items;
  parts : map (λ t. t.part.value) l.tasks.items ++ l.parts.items ≡ l.initial.parts.items;
  len : vec_len l.tasks + vec_len l.benches ≡ vec_len l.initial.benches;
  left : vec_len l.tasks + vec_len l.parts ≡ vec_len l.initial.parts;
  room : vec_len l.tasks + vec_len l.benches ≤ vec_capacity l.tasks;
  benches_has : vec_len l.initial.benches ≤ vec_capacity l.benches;
  parts_has : vec_len l.initial.parts ≤ vec_capacity l.parts;
  benches_room : vec_capacity l.initial.benches ≤ vec_capacity l.benches;
  parts_room : vec_capacity l.initial.parts ≤ vec_capacity l.parts;
}

abbrev pub decreases-loop-alloc : goal.decreases-loop-alloc
decreases-loop-alloc g l = vec_len l.benches
