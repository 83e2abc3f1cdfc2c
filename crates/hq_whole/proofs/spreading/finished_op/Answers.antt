use Rattle.std.proofs.Common.{ap, ◌∙◌}
use Rattle.hq_laws.specs.Stages.{tail_op}
use Rattle.hq_whole.proofs.spreading.finished_op.Goals as goal

pub returns : goal.returns
returns c = c.in_ok-op.ensures ∙ ap (tail_op c.args.query.now) c.in_ok-merged.ensures
