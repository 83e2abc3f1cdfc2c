use Rattle.hq_schema.proofs.InOrder.{numbers_apart, rules_numbered}
use Rattle.hq_schema.proofs.laws.numbers_are_apart.Goals as goal

pub returns-clause-apart : goal.returns-clause-apart
returns-clause-apart c = λ n tables. numbers_apart n tables

pub returns-clause-rules : goal.returns-clause-rules
returns-clause-rules c = λ n tables rules. rules_numbered n tables rules
