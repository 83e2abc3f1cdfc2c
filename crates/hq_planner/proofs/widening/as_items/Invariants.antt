use Rattle.std.proofs.Common.{◌≡◌, map, take}
use Rattle.hq_algebra.specs.declared.expr.Expr.TheVariants as e
use Rattle.hq_planner.proofs.widening.as_items.Given as goal

abbrev pub invariant-loop-column : goal.invariant-loop-column
invariant-loop-column l = l.items ≡ map e.Column (take l.column-index l.columns)
