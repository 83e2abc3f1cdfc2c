use Rattle.std.proofs.Common.{◌∙◌, ap, ℕ}
use Rattle.hq_algebra.specs.declared.op.Op.TheVariants as op
use Rattle.hq_whole.proofs.Building.{two-sent, one-longer}
use Rattle.hq_whole.proofs.spreading.both_moved.Goals as goal

pub returns : goal.returns
returns c = record {
  slices = two-sent c.args.slices.now c.sent.new.slices c.right_moved.new.slices c.in_ok-out.out c.args.step.now.left_keys c.args.step.now.right_keys c.args.root c.args.source c.in_ok-out.ensures c.in_ok-left.ensures.slices c.in_ok-sides.ensures.slices;
  left = c.in_ok-sides.ensures.left ∙ c.in_ok-left.ensures.received;
  right = c.in_ok-sides.ensures.right ∙ ap (λ (n : ℕ). op.Receive n c.args.others.now) (one-longer c.args.slices.now c.sent.new.slices c.in_ok-out.out c.args.root c.in_ok-left.ensures.slices);
}
