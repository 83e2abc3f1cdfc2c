-- How items, conditions and values are read: each with a new limit.
use Rattle.std.specs.Prelude.{Bool, true}
use Rattle.hq_expr.specs.State.{State}
use Rattle.hq_expr.specs.Reader.{Parser}
use Rattle.hq_expr.specs.Reading.{factor, neg, sum, cond, literal}
use Rattle.hq_expr.specs.declared.tree.Literal.{Literal}
use Rattle.hq_expr.specs.declared.tree.SqlExpr.{SqlExpr}

abbrev pub renewed : State → State
renewed s = record { left = 256; rest = s.rest }

unfoldable pub item_sum : Parser SqlExpr
item_sum s = sum (factor 257 true) (renewed s)

unfoldable pub condition : Bool → Parser SqlExpr
condition a s = cond (neg 257 a) (renewed s)

unfoldable pub value : Parser Literal
value s = literal (renewed s)
