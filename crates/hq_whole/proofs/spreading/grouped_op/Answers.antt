use Rattle.std.proofs.Common.{List, ap, ◌∙◌}
use Rattle.hq_algebra.specs.declared.expr.Expr.{Expr}
use Rattle.hq_laws.specs.Stages.{filters, partial_op}
use Rattle.hq_whole.proofs.spreading.grouped_op.Goals as goal

pub returns : goal.returns
returns c = c.in_ok-op.ensures ∙ ap (partial_op c.args.query.now) (c.in_ok-kept.ensures ∙ ap (λ (cs : List Expr). filters cs c.args.root) c.as_slice.ensures)
