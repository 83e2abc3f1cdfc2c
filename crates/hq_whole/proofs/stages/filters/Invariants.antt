use Rattle.std.proofs.Common.{◌≡◌, drop}
use Rattle.hq_laws.specs.Stages.{filters}
use Rattle.hq_whole.proofs.stages.filters.Given as goal

abbrev pub invariant-loop-cond : goal.invariant-loop-cond
invariant-loop-cond l = filters (drop l.cond-index l.conds) l.op ≡ filters l.conds l.fn.input
