use Rattle.hq_algebra.specs.declared.op.Op.TheVariants as op
use Rattle.hq_whole.proofs.gathering.received.Goals as goal

pub returns : goal.returns
returns c = λ i. op.Receive c.args.slice (c.in_ok-kinds.ensures i)
