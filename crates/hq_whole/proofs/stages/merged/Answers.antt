use Rattle.std.proofs.Common.{◌∙◌}
use Rattle.hq_algebra.specs.declared.op.Op.TheVariants as op
use Rattle.hq_laws.specs.Stages.{final_aggregates}
use Rattle.hq_whole.proofs.stages.merged.Goals as goal

pub returns : goal.returns
returns c = λ i. op.Final (c.requires.keys i) ((c.in_ok-aggregates.ensures ∙ (λ j. final_aggregates (c.requires.keys j) (c.as_slice.ensures j))) i) (c.in_ok-input.ensures i)
