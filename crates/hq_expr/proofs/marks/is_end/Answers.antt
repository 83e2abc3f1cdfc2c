use Rattle.std.proofs.Common.{sym}
use Rattle.hq_expr.proofs.Texts.{lexed_end, fault_lexed, no_end_at_token}
use Rattle.hq_expr.proofs.marks.is_end.Goals as goal

pub returns-in-End-clause-yes : goal.returns-in-End-clause-yes
returns-in-End-clause-yes c = lexed_end c.args.text.now c.args.at (sym c.in-End.ensures.value)

pub returns-in-Fault-clause-no : goal.returns-in-Fault-clause-no
returns-in-Fault-clause-no c = λ h. fault_lexed c.args.text.now c.args.at _ _ (sym c.in-Fault.ensures.value) h

pub returns-in-Token-clause-no : goal.returns-in-Token-clause-no
returns-in-Token-clause-no c = λ h. no_end_at_token c.args.text.now c.args.at _ _ _ (sym c.in-Token.ensures.value) h
