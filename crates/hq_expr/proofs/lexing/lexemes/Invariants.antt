use Rattle.std.proofs.Common.{ℕ, ◌-◌, ◌≤◌, List, ◌++◌, length}
use Rattle.hq_expr.specs.Lexemes.{IsLexedFrom, IsLexed}
use Rattle.hq_expr.specs.declared.lexeme.Lexeme.{Lexeme}
use Rattle.hq_expr.proofs.lexing.lexemes.Given as goal

abbrev pub invariant-lex : goal.invariant-lex
invariant-lex l = record {
  more : (ls : List Lexeme) → IsLexedFrom l.text l.at ls → IsLexed l.text (l.out.items ++ ls);
  back : (ls : List Lexeme) → IsLexed l.text ls → (us : List Lexeme) × IsLexedFrom l.text l.at us;
  within : l.at ≤ length l.text;
}

abbrev pub decreases-lex : goal.decreases-lex
decreases-lex l = length l.text - l.at
