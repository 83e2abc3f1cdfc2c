use Rattle.std.proofs.Common.{◌∙◌}
use Rattle.hq_algebra.specs.declared.op.Op.TheVariants as op
use Rattle.hq_whole.proofs.stages.sorted.Goals as goal

pub returns : goal.returns
returns c = λ i. op.Sort ((c.in_ok-order.ensures ∙ c.as_slice.ensures) i) c.args.query.now.limit (c.in_ok-input.ensures i)
