use Rattle.std.proofs.Common.{◌∙◌, []}
use Rattle.std.proofs.lemmas.Result.{IfOk-weaker}
use Rattle.hq_ops.proofs.Steps.{none-long}
use Rattle.hq_ops.proofs.distinct.firsts.Goals as goal

pub returns : goal.returns
returns c = IfOk-weaker c.collected.result _ _ (λ found e. e ∙ c.in_ok-seen.ensures [] (none-long _ c.new.ensures.len)) c.collected.ensures
