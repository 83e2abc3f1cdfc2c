-- What is left, then what has moved, is what there was.
use Rattle.std.proofs.Common.{◌≡◌, ◌+◌, ◌≤◌, ◌++◌, map, vec_len, vec_capacity}
use Rattle.hq_txn.proofs.moves.from_tasks.Given as goal

abbrev pub invariant-loop-task : goal.invariant-loop-task
invariant-loop-task g l = record {
  benches : map (λ t. t.bench) l.tasks.items ++ l.benches.items ≡ map (λ t. t.bench) l.fn.tasks.items ++ l.initial.benches.items;
  parts : map (λ t. t.part.value) l.tasks.items ++ l.parts.items ≡ map (λ t. t.part.value) l.fn.tasks.items ++ l.initial.parts.items;
  benches_len : vec_len l.benches + vec_len l.tasks ≡ vec_len l.initial.benches + vec_len l.fn.tasks;
  parts_len : vec_len l.parts + vec_len l.tasks ≡ vec_len l.initial.parts + vec_len l.fn.tasks;
  benches_kept : vec_capacity l.initial.benches ≤ vec_capacity l.benches;
  parts_kept : vec_capacity l.initial.parts ≤ vec_capacity l.parts;
  benches_room : vec_len l.benches + vec_len l.tasks ≤ vec_capacity l.benches;
  parts_room : vec_len l.parts + vec_len l.tasks ≤ vec_capacity l.parts;
}

abbrev pub decreases-loop-task : goal.decreases-loop-task
decreases-loop-task g l = vec_len l.tasks
