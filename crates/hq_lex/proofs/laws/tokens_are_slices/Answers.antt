use Rattle.hq_lex.proofs.TokenLaws.{are_slices}
use Rattle.hq_lex.proofs.laws.tokens_are_slices.Goals as goal

pub returns : goal.returns
returns c = λ text at ts inside h. are_slices inside h
