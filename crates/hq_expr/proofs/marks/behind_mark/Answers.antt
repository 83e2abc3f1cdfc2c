use Rattle.std.proofs.Common.{sym, ◌∙◌, arith}
use Rattle.hq_expr.proofs.Texts.{no_mark_at_end, fault_lexed, mark_passes, mark_refused}
use Rattle.hq_expr.proofs.marks.behind_mark.Goals as goal

pub returns-in-End-clause-none : goal.returns-in-End-clause-none
returns-in-End-clause-none c = λ ls h. no_mark_at_end c.args.text.now c.args.at c.args.mark ls (sym c.in-End.ensures.value) h

pub returns-in-Fault-clause-none : goal.returns-in-Fault-clause-none
returns-in-Fault-clause-none c = λ ls h. fault_lexed c.args.text.now c.args.at _ _ (sym c.in-Fault.ensures.value) h

pub returns-then-is_mark-clause-some : goal.returns-then-is_mark-clause-some
returns-then-is_mark-clause-some c =
    mark_passes c.args.text.now c.args.at c.in-Token.start c.in-Token.end c.in-Token.kind c.args.mark (sym c.in-Token.ensures.value) (omega (arith, c.in-Token.ensures.advances))
    (sym c.is_mark.ensures ∙ c.if-is_mark.true)

pub returns-else-is_mark-clause-none : goal.returns-else-is_mark-clause-none
returns-else-is_mark-clause-none c = λ ls h.
    mark_refused c.args.text.now c.args.at c.in-Token.start c.in-Token.end c.in-Token.kind c.args.mark (sym c.in-Token.ensures.value) (sym c.is_mark.ensures ∙ c.if-is_mark.false) ls h
