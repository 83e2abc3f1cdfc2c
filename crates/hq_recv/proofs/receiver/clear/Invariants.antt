use Rattle.std.proofs.Common.{◌≡◌, ◌++◌, drop, None}
use Rattle.std.specs.Prelude.{replicate}
use Rattle.hq_recv.proofs.receiver.clear.Given as goal

abbrev pub invariant-loop-i : goal.invariant-loop-i
invariant-loop-i l = l.slots.items ≡ replicate l.i None ++ drop l.i l.fn.slots.items
