use Rattle.std.proofs.Common.{ℕ, ◌-◌, ◌≤◌, List, ◌++◌, length}
use Rattle.hq_lex.specs.Cut.{IsTokens, NoTokenAt}
use Rattle.hq_lex.specs.declared.token.Token.{Token}
use Rattle.hq_lex.proofs.cutting.cut.Given as goal

abbrev pub invariant-cut : goal.invariant-cut
invariant-cut l = record {
  more : (ts : List Token) → IsTokens l.text l.at ts → IsTokens l.text 0 (l.out.items ++ ts);
  fault : (place : ℕ) → NoTokenAt l.text l.at place → NoTokenAt l.text 0 place;
  within : l.at ≤ length l.text;
}

abbrev pub decreases-cut : goal.decreases-cut
decreases-cut l = length l.text - l.at
