use Rattle.std.proofs.Common.{refl}
use Rattle.hq_sql.proofs.Statements.{begin_is, snapshot_is, commit_is, rollback_is, no_control}
use Rattle.hq_sql.proofs.text.control_words.Goals as goal

pub returns-then-are_marks-clause-found : goal.returns-then-are_marks-clause-found
returns-then-are_marks-clause-found c = (c.requires, _, c.if-are_marks.ensures.yes, begin_is _ refl)

pub returns-then-are_marks-2-clause-found : goal.returns-then-are_marks-2-clause-found
returns-then-are_marks-2-clause-found c = (c.requires, _, c.if-are_marks-2.ensures.yes, snapshot_is _ refl)

pub returns-then-are_marks-3-clause-found : goal.returns-then-are_marks-3-clause-found
returns-then-are_marks-3-clause-found c = (c.requires, _, c.if-are_marks-3.ensures.yes, commit_is _ refl)

pub returns-then-are_marks-4-clause-found : goal.returns-then-are_marks-4-clause-found
returns-then-are_marks-4-clause-found c = (c.requires, _, c.if-are_marks-4.ensures.yes, rollback_is _ refl)

pub returns-clause-refused : goal.returns-clause-refused
returns-clause-refused c = λ s control h.
    no_control c.args.text.now c.if-are_marks.ensures.no c.if-are_marks-2.ensures.no c.if-are_marks-3.ensures.no c.if-are_marks-4.ensures.no s control h
