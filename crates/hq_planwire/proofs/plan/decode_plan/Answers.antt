use Rattle.std.proofs.Common.{◌∙◌, sym, arith}
use Rattle.std.proofs.lemmas.Result.{err_from_is_err_and}
use Rattle.hq_planwire.proofs.PlanCodecs.{plan_found, no_plan, not_formed}
use Rattle.hq_planwire.proofs.plan.decode_plan.Goals as goal

pub returns-in_err-plan-clause-not_a_plan : goal.returns-in_err-plan-clause-not_a_plan
returns-in_err-plan-clause-not_a_plan c = λ e.
    let p = err_from_is_err_and c.from_residual.result c.from_residual.ensures.1 in
    no_plan c.in_err-plan.field-0.0 c.args.bytes.now c.in_err-plan.ensures (cc (p.1, p.2, e))

pub returns-then-not-formed-clause-not_a_plan : goal.returns-then-not-formed-clause-not_a_plan
returns-then-not-formed-clause-not_a_plan c = λ e. not_formed c.args.bytes.now c.in_ok-plan.plan c.in_ok-plan.ensures (sym c.in_ok-formed.ensures ∙ c.if-not-formed.true)

pub returns-clause-found : goal.returns-clause-found
returns-clause-found c = plan_found c.args.bytes.now c.in_ok-plan.plan (λ i. omega (arith, c.type_inv.bytes i)) c.in_ok-plan.ensures (sym c.in_ok-formed.ensures ∙ c.if-not-formed.false)
