use Rattle.std.proofs.Common.{◌++◌, ◌∷◌, [], ap, ◌∙◌}
use Rattle.hq_algebra.specs.declared.plan.Motion.{Motion}
use Rattle.hq_laws.specs.Stages.{sending}
use Rattle.hq_whole.proofs.spreading.left_moved.Goals as goal

pub returns : goal.returns
returns c = record {
  slices = c.in_ok-sides.ensures.slices ∙ ap (λ (o : Motion). c.args.slices.now ++ sending o c.args.root ∷ []) c.in_ok-out.ensures;
  left = c.in_ok-sides.ensures.left;
  right = c.in_ok-sides.ensures.right;
}
