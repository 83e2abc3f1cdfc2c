use Rattle.hq_expr.specs.Whole.{IsItem}
use Rattle.hq_expr.specs.Parts.{item_sum}
use Rattle.hq_expr.proofs.Parts.{EndsExpr, item_complete, item_sound, not_refused, one_way}
use Rattle.hq_expr.proofs.laws.items_are_exact.Goals as goal

pub returns-clause-found : goal.returns-clause-found
returns-clause-found c = λ s t x h. item_sound s t x h

pub returns-clause-refused : goal.returns-clause-refused
returns-clause-refused c = λ s h x rest is ends. not_refused IsItem item_sum EndsExpr item_complete s h x rest is ends

pub returns-clause-one_way : goal.returns-clause-one_way
returns-clause-one_way c = λ ts r r' x y h ends h' ends'. one_way IsItem item_sum EndsExpr item_complete ts r r' x y h ends h' ends'
