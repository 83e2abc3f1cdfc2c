use Rattle.hq_expr.specs.Whole.{IsValue}
use Rattle.hq_expr.specs.Parts.{value}
use Rattle.hq_expr.proofs.Parts.{Anything, value_complete, value_sound, not_refused}
use Rattle.hq_expr.proofs.laws.values_are_exact.Goals as goal

pub returns-clause-found : goal.returns-clause-found
returns-clause-found c = λ s t v h. value_sound s t v h

pub returns-clause-refused : goal.returns-clause-refused
returns-clause-refused c = λ s h v rest is. not_refused IsValue value Anything value_complete s h v rest is tt
