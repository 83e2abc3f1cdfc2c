use Rattle.std.proofs.Common.{sym, ◌∙◌}
use Rattle.hq_ops.proofs.Steps.{on-ok}
use Rattle.hq_ops.proofs.Folds.{sought}
use Rattle.hq_ops.proofs.column.Column.add.Goals as goal

pub returns-in-Best-clause-value : goal.returns-in-Best-clause-value
returns-in-Best-clause-value c = rw c.in-Best.is (on-ok c.add_best.result _ c.add_best.ensures.numeric c.add_best.ensures.value (λ f e. e ∙ sym (sought c.in-Best.extreme _ _)))

pub returns-in-BestAt-clause-value : goal.returns-in-BestAt-clause-value
returns-in-BestAt-clause-value c = rw c.in-BestAt.is (on-ok c.add_best_at.result _ c.add_best_at.ensures.numeric c.add_best_at.ensures.value (λ f e. e ∙ sym (sought c.in-BestAt.extreme _ _)))
