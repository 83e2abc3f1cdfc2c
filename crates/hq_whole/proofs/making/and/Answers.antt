use Rattle.hq_algebra.specs.declared.expr.Expr.TheVariants as e
use Rattle.hq_whole.proofs.making.and.Goals as goal

pub returns : goal.returns
returns c = λ i. e.And (c.in_ok-left.ensures i) (c.in_ok-right.ensures i)
