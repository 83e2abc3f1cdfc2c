use Rattle.std.proofs.Common.{◌∙◌, sym}
use Rattle.hq_planwire.proofs.PlanCodecs as law
use Rattle.hq_planwire.proofs.laws.plans_have_one_spelling.Goals as goal

pub returns-clause-one_spelling : goal.returns-clause-one_spelling
returns-clause-one_spelling c = λ plan a b is also. is.spelled ∙ sym also.spelled

pub returns-clause-one_plan : goal.returns-clause-one_plan
returns-clause-one_plan c = law.one_plan
