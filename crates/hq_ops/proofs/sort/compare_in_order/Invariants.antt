use Rattle.std.proofs.Common.{◌≡◌, drop}
use Rattle.hq_meaning.specs.Rows.{order_cmp}
use Rattle.hq_ops.proofs.sort.compare_in_order.Given as goal

abbrev pub invariant-loop-key : goal.invariant-loop-key
invariant-loop-key l = order_cmp (drop l.key-index l.order) l.a l.b ≡ order_cmp l.order l.a l.b
