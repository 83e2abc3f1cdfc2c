use Rattle.hq_algebra.specs.declared.expr.Expr.TheVariants as e
use Rattle.hq_whole.proofs.making.or.Goals as goal

pub returns : goal.returns
returns c = λ i. e.Or (c.in_ok-left.ensures i) (c.in_ok-right.ensures i)
