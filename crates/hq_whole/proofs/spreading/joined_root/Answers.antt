use Rattle.std.proofs.Common.{◌∙◌}
use Rattle.hq_algebra.specs.declared.op.Op.TheVariants as op
use Rattle.hq_whole.specs.Choices.{way_of}
use Rattle.hq_whole.proofs.Building.{slices-few}
use Rattle.hq_whole.proofs.spreading.joined_root.Goals as goal

pub returns : goal.returns
returns c = record {
  slices = c.in_ok-sides.ensures.0;
  few = slices-few c.args.slices.now c.make_sides.new.slices (way_of c.args.step.now.way) c.args.step.now.left_keys c.args.step.now.right_keys c.args.root c.args.source c.in_ok-sides.ensures.0;
  root = c.in_ok-op.ensures ∙ (λ i. op.Join c.args.step.now.left_keys c.args.step.now.right_keys (c.in_ok-sides.ensures.1 i) (c.in_ok-sides.ensures.2 i));
}
