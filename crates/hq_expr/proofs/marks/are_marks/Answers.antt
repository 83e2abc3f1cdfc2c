use Rattle.std.proofs.Common.{arith}
use Rattle.hq_expr.proofs.Texts.{marks_on, marks_back, marks_none, marks_yes, marks_no}
use Rattle.hq_expr.proofs.marks.are_marks.Goals as goal

pub loop-mark-init : goal.loop-mark-init
loop-mark-init c = record { within = omega arith; on = λ h. h; back = λ h. h }

pub loop-mark-preserved : goal.loop-mark-preserved
loop-mark-preserved c = record {
  within = c.in-Some.ensures.some.within;
  on = marks_on c.args.text.now c.loop-mark.at c.in-Some.end c.args.marks.now c.loop-mark.mark-index _ c.loop-mark-test.true c.in-Some.ensures.some c.loop-mark.invariant.on;
  back = marks_back c.args.text.now c.loop-mark.at c.in-Some.end c.args.marks.now c.loop-mark.mark-index _ c.loop-mark-test.true c.in-Some.ensures.some c.loop-mark.invariant.back;
}

pub returns-in-None-clause-no : goal.returns-in-None-clause-no
returns-in-None-clause-no c =
    marks_none c.args.text.now c.loop-mark.at c.args.marks.now c.loop-mark.mark-index _ c.loop-mark-test.true c.in-None.ensures.none c.loop-mark.invariant.back

pub returns-clause-yes : goal.returns-clause-yes
returns-clause-yes c =
    marks_yes c.args.text.now c.loop-mark.at c.args.marks.now c.loop-mark.mark-index c.is_end.result (omega arith) c.is_end.ensures.yes c.loop-mark.invariant.on

pub returns-clause-no : goal.returns-clause-no
returns-clause-no c =
    marks_no c.args.text.now c.loop-mark.at c.args.marks.now c.loop-mark.mark-index c.is_end.result (omega arith) c.is_end.ensures.no c.loop-mark.invariant.back
