use Rattle.hq_lex.proofs.TokenLaws.{one_cutting}
use Rattle.hq_lex.proofs.laws.one_cutting.Goals as goal

pub returns : goal.returns
returns c = λ text at ts us h h'. one_cutting h h'
