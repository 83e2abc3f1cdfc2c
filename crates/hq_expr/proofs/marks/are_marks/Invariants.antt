use Rattle.std.proofs.Common.{◌≤◌, length, drop}
use Rattle.hq_expr.specs.Lexemes.{IsLexed, IsLexedFrom, marks_alone}
use Rattle.hq_expr.proofs.marks.are_marks.Given as goal

abbrev pub invariant-loop-mark : goal.invariant-loop-mark
invariant-loop-mark l = record {
  within : l.at ≤ length l.text;
  on : IsLexedFrom l.text l.at (marks_alone (drop l.mark-index l.marks)) → IsLexed l.text (marks_alone l.marks);
  back : IsLexed l.text (marks_alone l.marks) → IsLexedFrom l.text l.at (marks_alone (drop l.mark-index l.marks));
}
