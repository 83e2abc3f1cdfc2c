use Rattle.std.proofs.Common.{◌∙◌}
use Rattle.hq_algebra.specs.declared.op.Op.TheVariants as op
use Rattle.hq_whole.proofs.Results.{if_ok-then}
use Rattle.hq_whole.proofs.making.join.Goals as goal

pub returns : goal.returns
returns c =
    if_ok-then c.by_keys.result (op.Join c.in_ok-left_keys.left_keys c.in_ok-right_keys.right_keys c.args.left c.args.right) (op.Join c.args.left_keys.now c.args.right_keys.now c.args.left c.args.right)
    (λ i. op.Join ((c.in_ok-left_keys.ensures ∙ c.as_slice.ensures) i) ((c.in_ok-right_keys.ensures ∙ c.as_slice-2.ensures) i) c.args.left c.args.right) c.by_keys.ensures
