use Rattle.hq_lex.proofs.TokenLaws.{not_both, one_place}
use Rattle.hq_lex.proofs.laws.places_are_exact.Goals as goal

pub returns-clause-not_both : goal.returns-clause-not_both
returns-clause-not_both c = λ text at place ts h h'. not_both h h'

pub returns-clause-one_place : goal.returns-clause-one_place
returns-clause-one_place c = λ text at place other h h'. one_place h h'
