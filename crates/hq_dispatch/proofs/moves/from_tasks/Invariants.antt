-- What is left, then what has moved, is what there was.
use Rattle.std.proofs.Common.{◌≡◌, ◌+◌, ◌≤◌, ◌++◌, vec_len, vec_capacity}
use Rattle.hq_dispatch.specs.Ended.{benches_of}
use Rattle.hq_dispatch.proofs.moves.from_tasks.Given as goal

abbrev pub invariant-loop-task : goal.invariant-loop-task
invariant-loop-task g l = record {
  benches : benches_of l.tasks.items ++ l.benches.items ≡ benches_of l.fn.tasks.items ++ l.initial.benches.items;
  room : vec_len l.benches + vec_len l.tasks ≤ vec_capacity l.benches;
}

abbrev pub decreases-loop-task : goal.decreases-loop-task
decreases-loop-task g l = vec_len l.tasks
