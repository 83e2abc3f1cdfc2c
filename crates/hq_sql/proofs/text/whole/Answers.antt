use Rattle.std.proofs.Common.{sym, subst}
use Rattle.hq_expr.specs.State.{State}
use Rattle.hq_sql.specs.Statements.{IsStatement}
use Rattle.hq_sql.proofs.text.whole.Goals as goal

pub returns-clause-refused : goal.returns-clause-refused
returns-clause-refused c = λ is s h. c.alone.ensures.refused is s (subst (λ (t : State). IsStatement t.rest s) (sym c.new-cursor.ensures) h)
