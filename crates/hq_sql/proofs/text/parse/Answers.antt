use Rattle.std.proofs.Common.{sym, subst}
use Rattle.hq_sql.specs.Statements.{Parses}
use Rattle.hq_sql.proofs.text.parse.Goals as goal

pub returns-in-Ok-clause-refused : goal.returns-in-Ok-clause-refused
returns-in-Ok-clause-refused c = λ is s h. c.lexed.ensures.refused is s (subst (λ z. Parses z s) (sym c.in-Ok.ensures.cases.0) h)
