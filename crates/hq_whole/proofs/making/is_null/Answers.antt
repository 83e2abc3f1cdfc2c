use Rattle.hq_algebra.specs.declared.expr.Expr.TheVariants as e
use Rattle.hq_whole.proofs.making.is_null.Goals as goal

pub returns : goal.returns
returns c = λ i. e.IsNull (c.in_ok-of.ensures i)
