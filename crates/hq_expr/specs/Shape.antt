-- What every tree that is read keeps.
--     weight x             its operators, aggregates, NOTs and tests for NULL
--     is_sum a x           an item's sum: literals, columns and arithmetic, and aggregates of such sums where a is true
--     is_cond a x          a condition: its comparisons are of operands, so it has no arithmetic outside of aggregates
--     is_item, is_condition a        and its weight is at most 256
use Rattle.std.specs.Prelude.{ℕ, suc, ◌+◌, Bool, true, false, ◌&&◌, nat_le}
use Rattle.hq_expr.specs.declared.tree.SqlExpr.{SqlExpr, Row_of-SqlExpr, end_of-SqlExpr, more_of-SqlExpr}
use Rattle.hq_expr.specs.declared.tree.SqlExpr.TheVariants as e

-- its operators, aggregates, NOTs and tests for NULL
abbrev mutual
  pub weight : SqlExpr → ℕ
  weight (e.Literal v) = 0
  weight (e.Column r) = 0
  weight e.CountAll = 1
  weight (e.Aggregate' kind _ of) = suc (weight_in of)
  weight (e.Arith' kind _ left _ right) = suc (weight_in left + weight_in right)
  weight (e.Compare' kind _ left _ right) = suc (weight_in left + weight_in right)
  weight (e.And' _ left _ right) = suc (weight_in left + weight_in right)
  weight (e.Or' _ left _ right) = suc (weight_in left + weight_in right)
  weight (e.Not' _ of) = suc (weight_in of)
  weight (e.IsNull' _ of) = suc (weight_in of)

  pub weight_in : {m : _} → Row_of-SqlExpr m → ℕ
  weight_in end_of-SqlExpr = 0
  weight_in (more_of-SqlExpr x rest) = weight x

-- literals, columns and arithmetic, and aggregates of such sums where the flag is true
abbrev mutual
  pub is_sum : Bool → SqlExpr → Bool
  is_sum aggs (e.Literal v) = true
  is_sum aggs (e.Column r) = true
  is_sum aggs e.CountAll = aggs
  is_sum aggs (e.Aggregate' kind _ of) = aggs && sum_in false of
  is_sum aggs (e.Arith' kind _ left _ right) = sum_in aggs left && sum_in aggs right
  is_sum aggs (e.Compare' kind _ left _ right) = false
  is_sum aggs (e.And' _ left _ right) = false
  is_sum aggs (e.Or' _ left _ right) = false
  is_sum aggs (e.Not' _ of) = false
  is_sum aggs (e.IsNull' _ of) = false

  pub sum_in : {m : _} → Bool → Row_of-SqlExpr m → Bool
  sum_in aggs end_of-SqlExpr = false
  sum_in aggs (more_of-SqlExpr x rest) = is_sum aggs x

-- a literal or a column, or an aggregate where the flag is true
abbrev pub is_operand : Bool → SqlExpr → Bool
is_operand aggs (e.Literal v) = true
is_operand aggs (e.Column r) = true
is_operand aggs e.CountAll = aggs
is_operand aggs (e.Aggregate' kind _ of) = aggs && sum_in false of
is_operand aggs _ = false

abbrev pub operand_in : {m : _} → Bool → Row_of-SqlExpr m → Bool
operand_in aggs end_of-SqlExpr = false
operand_in aggs (more_of-SqlExpr x rest) = is_operand aggs x

-- comparisons and tests of operands, joined by AND, OR and NOT
abbrev mutual
  pub is_cond : Bool → SqlExpr → Bool
  is_cond aggs (e.Literal v) = true
  is_cond aggs (e.Column r) = true
  is_cond aggs e.CountAll = aggs
  is_cond aggs (e.Aggregate' kind _ of) = aggs && sum_in false of
  is_cond aggs (e.Arith' kind _ left _ right) = false
  is_cond aggs (e.Compare' kind _ left _ right) = operand_in aggs left && operand_in aggs right
  is_cond aggs (e.And' _ left _ right) = cond_in aggs left && cond_in aggs right
  is_cond aggs (e.Or' _ left _ right) = cond_in aggs left && cond_in aggs right
  is_cond aggs (e.Not' _ of) = cond_in aggs of
  is_cond aggs (e.IsNull' _ of) = operand_in aggs of

  pub cond_in : {m : _} → Bool → Row_of-SqlExpr m → Bool
  cond_in aggs end_of-SqlExpr = false
  cond_in aggs (more_of-SqlExpr x rest) = is_cond aggs x

-- what an item is
abbrev pub is_item : SqlExpr → Bool
is_item x = is_sum true x && nat_le (weight x) 256

-- what ON, WHERE and HAVING are; aggregates stand in HAVING alone
abbrev pub is_condition : Bool → SqlExpr → Bool
is_condition aggs x = is_cond aggs x && nat_le (weight x) 256
