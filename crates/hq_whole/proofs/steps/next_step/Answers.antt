use Rattle.std.proofs.Common.{◌+◌, ◌∙◌, ℕ, ap, arith}
use Rattle.hq_laws.specs.Placed.{homes_after}
use Rattle.hq_whole.specs.Choices.{way_of}
use Rattle.hq_whole.specs.Tables.{kinds_by, keys_by}
use Rattle.hq_whole.proofs.Stepping.{keys-below, stands-there}
use Rattle.hq_whole.proofs.steps.next_step.Goals as goal

pub take_step-requires-clause-keys : goal.take_step-requires-clause-keys
take_step-requires-clause-keys c = keys-below c.args.course.now.width c.width_of-columns.result c.as_slice.result.now c.args.conds.now c.as_slice-2.result.now c.in_ok-step.step c.in_ok-step.ensures.stands

pub returns : goal.returns
returns c = record {
  table = c.in_ok-step.ensures.table;
  stands = stands-there c.args.course.now.width c.width_of-columns.result _ c.as_slice.result.now _ c.args.conds.now c.as_slice-2.result.now _ c.in_ok-step.step c.width_of-columns.ensures.width (c.as_slice.ensures ∙ c.in_ok-own.ensures.keys) c.as_slice-2.ensures.value c.in_ok-step.ensures.stands;
  homes = c.in_ok-take_step.ensures ∙ (λ i. homes_after (way_of c.in_ok-step.step.way) c.args.course.now.width (c.width_of-columns.ensures.width i) ((c.as_slice-3.ensures ∙ c.in_ok-own.ensures.keys) i) c.in_ok-step.step.left_keys c.in_ok-step.step.right_keys c.args.course.now.homes.items);
  width = ap (λ (n : ℕ). c.args.course.now.width + n) c.width_of-columns.ensures.width;
  few = omega (arith, c.width_of-columns.ensures.few);
}
