use Rattle.std.proofs.Common.{ℕ, List, ◌++◌, ◌∷◌, [], ap, sym, ◌∙◌}
use Rattle.hq_planner.proofs.Taken.{range-more}
use Rattle.hq_planner.proofs.taking.numbers.Goals as goal

pub loop-number-preserved : goal.loop-number-preserved
loop-number-preserved c = c.in_ok-push.ensures.ok ∙ ap (λ (l : List ℕ). l ++ c.loop-number.number ∷ []) c.loop-number.invariant ∙ sym (range-more c.loop-number.number)
