use Rattle.hq_algebra.specs.declared.expr.Expr.TheVariants as e
use Rattle.hq_whole.proofs.making.not.Goals as goal

pub returns : goal.returns
returns c = λ i. e.Not (c.in_ok-of.ensures i)
