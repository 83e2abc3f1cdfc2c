-- What an expression is made of.
--     parts e             how many of its parts compute: all but columns and literals
--     has_arith e         some part is a step of arithmetic
--     has_column e        some part is a column
use Rattle.std.specs.Prelude.{ℕ, suc, ◌+◌, Bool, true, false, ◌||◌}
use Rattle.hq_algebra.specs.declared.expr.Expr.{Expr, Row_of-Expr, end_of-Expr, more_of-Expr}
use Rattle.hq_algebra.specs.declared.expr.Expr.TheVariants as expr

-- how many of its parts compute: all but columns and literals
abbrev mutual
  pub parts : Expr → ℕ
  parts (expr.Column place) = 0
  parts (expr.Literal v) = 0
  parts (expr.Arith' kind _ left _ right) = suc (parts_of left + parts_of right)
  parts (expr.Compare' kind _ left _ right) = suc (parts_of left + parts_of right)
  parts (expr.And' _ left _ right) = suc (parts_of left + parts_of right)
  parts (expr.Or' _ left _ right) = suc (parts_of left + parts_of right)
  parts (expr.Not' _ of) = suc (parts_of of)
  parts (expr.IsNull' _ of) = suc (parts_of of)

  pub parts_of : {m : _} → Row_of-Expr m → ℕ
  parts_of end_of-Expr = 0
  parts_of (more_of-Expr e rest) = parts e

-- some part is a step of arithmetic
abbrev mutual
  pub has_arith : Expr → Bool
  has_arith (expr.Column place) = false
  has_arith (expr.Literal v) = false
  has_arith (expr.Arith' kind _ left _ right) = true
  has_arith (expr.Compare' kind _ left _ right) = arith_in left || arith_in right
  has_arith (expr.And' _ left _ right) = arith_in left || arith_in right
  has_arith (expr.Or' _ left _ right) = arith_in left || arith_in right
  has_arith (expr.Not' _ of) = arith_in of
  has_arith (expr.IsNull' _ of) = arith_in of

  pub arith_in : {m : _} → Row_of-Expr m → Bool
  arith_in end_of-Expr = false
  arith_in (more_of-Expr e rest) = has_arith e

-- some part is a column
abbrev mutual
  pub has_column : Expr → Bool
  has_column (expr.Column place) = true
  has_column (expr.Literal v) = false
  has_column (expr.Arith' kind _ left _ right) = column_in left || column_in right
  has_column (expr.Compare' kind _ left _ right) = column_in left || column_in right
  has_column (expr.And' _ left _ right) = column_in left || column_in right
  has_column (expr.Or' _ left _ right) = column_in left || column_in right
  has_column (expr.Not' _ of) = column_in of
  has_column (expr.IsNull' _ of) = column_in of

  pub column_in : {m : _} → Row_of-Expr m → Bool
  column_in end_of-Expr = false
  column_in (more_of-Expr e rest) = has_column e
