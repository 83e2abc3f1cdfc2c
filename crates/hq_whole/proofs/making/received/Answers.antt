use Rattle.std.proofs.Common.{◌∙◌}
use Rattle.hq_algebra.specs.declared.op.Op.TheVariants as op
use Rattle.hq_whole.proofs.making.received.Goals as goal

pub returns : goal.returns
returns c = λ i. op.Receive c.args.slice ((c.in_ok-kinds.ensures ∙ c.as_slice.ensures) i)
