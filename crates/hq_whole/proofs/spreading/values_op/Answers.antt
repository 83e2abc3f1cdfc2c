use Rattle.std.proofs.Common.{List, ap, ◌∙◌}
use Rattle.hq_algebra.specs.declared.expr.Expr.{Expr}
use Rattle.hq_algebra.specs.declared.op.Op.{Op}
use Rattle.hq_algebra.specs.declared.op.Op.TheVariants as op
use Rattle.hq_laws.specs.Stages.{filters}
use Rattle.hq_whole.proofs.spreading.values_op.Goals as goal

pub returns : goal.returns
returns c = c.in_ok-op.ensures ∙ ap (λ (x : Op). op.Project c.args.query.now.items x) (c.in_ok-kept.ensures ∙ ap (λ (cs : List Expr). filters cs c.args.root) c.as_slice.ensures)
