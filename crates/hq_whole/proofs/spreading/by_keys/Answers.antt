use Rattle.std.proofs.Common.{◌∙◌}
use Rattle.hq_algebra.specs.declared.plan.Motion.TheVariants as motion
use Rattle.hq_whole.proofs.spreading.by_keys.Goals as goal

pub returns : goal.returns
returns c = λ i. motion.Redistribute ((c.in_ok-keys.ensures ∙ c.as_slice.ensures) i)
