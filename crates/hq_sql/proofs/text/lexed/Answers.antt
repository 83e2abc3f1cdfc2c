use Rattle.hq_sql.proofs.Statements.{text_refused, as_other}
use Rattle.hq_sql.proofs.text.lexed.Goals as goal

pub returns-in-Err-clause-refused : goal.returns-in-Err-clause-refused
returns-in-Err-clause-refused c = λ is s h. c.in-Err.ensures.refused (as_other _ _ is) h.1 h.2

pub returns-in-Ok-clause-refused : goal.returns-in-Ok-clause-refused
returns-in-Ok-clause-refused c = λ is s h. text_refused c.args.text.now c.in-Ok.lexemes.items c.in-Ok.ensures.found (c.whole.ensures.refused is) s h
