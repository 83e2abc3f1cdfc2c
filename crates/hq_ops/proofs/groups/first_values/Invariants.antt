use Rattle.std.proofs.Common.{◌≡◌, take}
use Rattle.hq_ops.proofs.groups.first_values.Given as goal

abbrev pub invariant-loop-value : goal.invariant-loop-value
invariant-loop-value l = l.key ≡ take l.value-index l.value-items
