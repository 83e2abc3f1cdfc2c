use Rattle.std.proofs.Common.{◌∙◌}
use Rattle.hq_algebra.specs.declared.op.Op.TheVariants as op
use Rattle.hq_whole.proofs.stages.listed_op.Goals as goal

pub returns : goal.returns
returns c = λ i. op.Project ((c.in_ok-items.ensures ∙ c.as_slice.ensures) i) (c.in_ok-input.ensures i)
