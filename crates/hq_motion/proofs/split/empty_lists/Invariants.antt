use Rattle.std.proofs.Common.{◌≡◌, [], replicate}
use Rattle.hq_motion.proofs.split.empty_lists.Given as goal

abbrev pub invariant-loop : goal.invariant-loop
invariant-loop l = l.lists.items ≡ replicate l.counter []
