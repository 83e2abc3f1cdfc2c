use Rattle.hq_expr.specs.Whole.{IsCond}
use Rattle.hq_expr.specs.Parts.{condition}
use Rattle.hq_expr.proofs.Parts.{EndsExpr, cond_complete, cond_sound, not_refused, one_way}
use Rattle.hq_expr.proofs.laws.conditions_are_exact.Goals as goal

pub returns-clause-found : goal.returns-clause-found
returns-clause-found c = λ aggs s t x h. cond_sound aggs s t x h

pub returns-clause-refused : goal.returns-clause-refused
returns-clause-refused c = λ aggs s h x rest is ends. not_refused (IsCond aggs) (condition aggs) EndsExpr (cond_complete aggs) s h x rest is ends

pub returns-clause-one_way : goal.returns-clause-one_way
returns-clause-one_way c = λ aggs ts r r' x y h ends h' ends'. one_way (IsCond aggs) (condition aggs) EndsExpr (cond_complete aggs) ts r r' x y h ends h' ends'
