use Rattle.std.proofs.Common.{[]}
use Rattle.hq_algebra.specs.declared.op.Op.TheVariants as op
use Rattle.hq_whole.proofs.Results.{if_ok-then}
use Rattle.hq_whole.proofs.gathering.beside.Goals as goal

pub returns : goal.returns
returns c = if_ok-then c.by_keys.result (op.Join c.new.result c.new-2.result c.args.left c.args.right) (op.Join [] [] c.args.left c.args.right) (λ i. op.Join (c.new.ensures i) (c.new-2.ensures i) c.args.left c.args.right) c.by_keys.ensures
