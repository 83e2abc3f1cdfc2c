use Rattle.hq_sql.proofs.Texts.{parses-from, parses-to}
use Rattle.hq_sql.proofs.laws.statements_are_found.Goals as goal

pub returns : goal.returns
returns c = λ text s. (parses-from text s, parses-to text s)
