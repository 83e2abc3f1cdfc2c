use Rattle.std.proofs.Common.{◌∙◌}
use Rattle.hq_algebra.specs.declared.op.Op.TheVariants as op
use Rattle.hq_whole.proofs.stages.partial.Goals as goal

pub returns : goal.returns
returns c = λ i. op.Partial ((c.in_ok-keys.ensures ∙ c.as_slice.ensures) i) ((c.in_ok-aggregates.ensures ∙ c.as_slice-2.ensures) i) (c.in_ok-input.ensures i)
