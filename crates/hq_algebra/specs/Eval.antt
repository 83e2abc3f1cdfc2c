-- What an expression means over a row.
--     eval e row                  its value, or a fault
--     value_at, faults_at         its value, NULL at a fault; whether it faults
--     is_true_at e row            it is TRUE: neither FALSE nor unknown
use Rattle.std.specs.Prelude.{ℕ, Bool, true, false, List, slice_get, unwrap_or}
use Rattle.hq_value.specs.declared.value.Value.{Value}
use Rattle.hq_value.specs.declared.value.Value.TheVariants as value
use Rattle.hq_algebra.specs.declared.expr.Expr.{Expr, Row_of-Expr, end_of-Expr, more_of-Expr}
use Rattle.hq_algebra.specs.declared.expr.Expr.TheVariants as expr
use Rattle.hq_algebra.specs.Outcome.{Outcome, Is, Fault, of_one, of_two, of_two_values}
use Rattle.hq_algebra.specs.Steps.{arith_of, compare_of, and_of, or_of, not_of, is_null_of}

-- the value at a place; NULL past the end, where no column of a query is
abbrev pub column : List Value → ℕ → Value
column row place = unwrap_or (slice_get row place) value.Null

-- the value of an expression over a row, or a fault. An operand stands in a row of one, which `only` reads
abbrev mutual
  pub eval : Expr → List Value → Outcome
  eval (expr.Column place) row = Is (column row place)
  eval (expr.Literal v) row = Is v
  eval (expr.Arith' kind _ left _ right) row = of_two (arith_of kind) (only left row) (only right row)
  eval (expr.Compare' kind _ left _ right) row = of_two_values (compare_of kind) (only left row) (only right row)
  eval (expr.And' _ left _ right) row = of_two_values and_of (only left row) (only right row)
  eval (expr.Or' _ left _ right) row = of_two_values or_of (only left row) (only right row)
  eval (expr.Not' _ of) row = of_one not_of (only of row)
  eval (expr.IsNull' _ of) row = of_one is_null_of (only of row)

  pub only : {m : _} → Row_of-Expr m → List Value → Outcome
  only end_of-Expr row = Is value.Null
  only (more_of-Expr e rest) row = eval e row

abbrev pub or_null : Outcome → Value
or_null (Is v) = v
or_null Fault = value.Null

abbrev pub is_fault : Outcome → Bool
is_fault (Is v) = false
is_fault Fault = true

-- its value, NULL at a fault
abbrev pub value_at : Expr → List Value → Value
value_at e row = or_null (eval e row)

abbrev pub faults_at : Expr → List Value → Bool
faults_at e row = is_fault (eval e row)

abbrev pub is_true : Value → Bool
is_true (value.Bool b) = b
is_true _ = false

-- it is TRUE: neither FALSE nor unknown
abbrev pub is_true_at : Expr → List Value → Bool
is_true_at e row = is_true (value_at e row)
