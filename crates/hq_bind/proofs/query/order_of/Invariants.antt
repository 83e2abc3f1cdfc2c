use Rattle.std.proofs.Common.{◌≡◌, take}
use Rattle.hq_bind.specs.Bound.{order_of}
use Rattle.hq_bind.proofs.query.order_of.Given as goal

abbrev pub invariant-loop-key : goal.invariant-loop-key
invariant-loop-key l = l.order ≡ order_of l.items (take l.key-index l.keys)
