use Rattle.hq_algebra.specs.declared.op.Op.TheVariants as op
use Rattle.hq_whole.proofs.making.by_keys.Goals as goal

pub returns : goal.returns
returns c = λ i. op.Join c.args.left_keys c.args.right_keys (c.in_ok-left.ensures i) (c.in_ok-right.ensures i)
