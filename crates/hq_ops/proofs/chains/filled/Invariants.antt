use Rattle.std.proofs.Common.{◌≡◌, replicate}
use Rattle.hq_ops.proofs.chains.filled.Given as goal

abbrev pub invariant-loop-item : goal.invariant-loop-item
invariant-loop-item l = l.items.items ≡ replicate l._item l.value
