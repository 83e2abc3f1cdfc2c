use Rattle.hq_algebra.specs.declared.op.Op.TheVariants as op
use Rattle.hq_whole.proofs.Results.{if_ok-then}
use Rattle.hq_whole.proofs.stages.filtered.Goals as goal

pub returns : goal.returns
returns c = if_ok-then c.filter.result (op.Filter c.in_ok-cond.cond c.args.input) (op.Filter c.args.cond.now c.args.input) (λ i. op.Filter (c.in_ok-cond.ensures i) c.args.input) c.filter.ensures
