use Rattle.std.proofs.Common.{◌∙◌}
use Rattle.hq_laws.specs.Placed.{own_homes}
use Rattle.hq_whole.proofs.steps.begun.Goals as goal

pub returns : goal.returns
returns c = record {
  width = c.width_of-width.ensures.width;
  few = c.width_of-width.ensures.few;
  homes = c.in_ok-homes.ensures ∙ (λ i. own_homes (c.width_of-width.ensures.width i) ((c.as_slice.ensures ∙ c.in_ok-own.ensures.keys) i));
}
