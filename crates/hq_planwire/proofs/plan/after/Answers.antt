use Rattle.std.proofs.Common.{Bool, List, ℕ, cond, Some, None, length, drop, sym, ap, ◌∙◌}
use Rattle.hq_planwire.proofs.After.{after-pointwise}
use Rattle.hq_planwire.proofs.plan.after.Goals as goal

pub returns-in-Some : goal.returns-in-Some
returns-in-Some c =
    let expected = c.args.expected.now in
    let bytes = c.args.bytes.now in
    after-pointwise expected bytes ∙ ap (λ (b : Bool). cond b (Some (drop (length expected) bytes)) None) c.in-Some.ensures.cases.0 ∙ ap (λ (l : List ℕ). Some l) (sym c.in-Some.ensures.cases.1)

pub returns-in-None : goal.returns-in-None
returns-in-None c =
    let expected = c.args.expected.now in
    let bytes = c.args.bytes.now in
    after-pointwise expected bytes ∙ ap (λ (b : Bool). cond b (Some (drop (length expected) bytes)) None) c.in-None.ensures.cases
