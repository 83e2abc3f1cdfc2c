use Rattle.hq_algebra.specs.declared.op.Op.TheVariants as op
use Rattle.hq_whole.proofs.making.filter.Goals as goal

pub returns : goal.returns
returns c = λ i. op.Filter c.args.cond (c.in_ok-input.ensures i)
