use Rattle.std.proofs.Common.{◌∙◌}
use Rattle.hq_meaning.specs.Operators.{joined}
use Rattle.std.proofs.lemmas.Result.{IfOk-weaker}
use Rattle.hq_ops.proofs.join.join.Goals as goal

pub returns : goal.returns
returns c =
    IfOk-weaker c.join_chains.result _ _ (λ found h. h ∙ (λ i. joined c.args.left_keys.now (c.in_ok-chains.ensures.keys i) c.args.left.now (c.in_ok-chains.ensures.rows i))) c.join_chains.ensures
