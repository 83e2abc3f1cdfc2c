-- Without arithmetic nothing faults.
use Rattle.std.proofs.Common.{◌≡◌, Bool, true, false, ◌||◌, List, refl}
use Rattle.hq_value.specs.declared.value.Value.{Value}
use Rattle.hq_algebra.specs.declared.expr.Expr.{Expr, Row_of-Expr, end_of-Expr, more_of-Expr}
use Rattle.hq_algebra.specs.declared.expr.Expr.TheVariants as expr
use Rattle.hq_algebra.specs.Outcome.{Outcome, Is, Fault, of_one, of_two_values}
use Rattle.hq_algebra.specs.Shape.{has_arith, arith_in}
use Rattle.hq_algebra.specs.Eval.{eval, only, is_fault}

left_false : (a b : Bool) → (a || b) ≡ false → a ≡ false
left_false true b h = h
left_false false b h = refl

right_false : (a b : Bool) → (a || b) ≡ false → b ≡ false
right_false true b h = cc
right_false false b h = h

two_faultless : (f : Value → Value → Value) (o p : Outcome) → is_fault o ≡ false → is_fault p ≡ false → is_fault (of_two_values f o p) ≡ false
two_faultless f (Is a) (Is b) h k = refl
two_faultless f (Is a) Fault h k = cc
two_faultless f Fault p h k = cc

one_faultless : (f : Value → Value) (o : Outcome) → is_fault o ≡ false → is_fault (of_one f o) ≡ false
one_faultless f (Is a) h = refl
one_faultless f Fault h = cc

mutual
  pub faultless : (e : Expr) (row : List Value) → has_arith e ≡ false → is_fault (eval e row) ≡ false
  faultless (expr.Column place) row h = refl
  faultless (expr.Literal v) row h = refl
  faultless (expr.Arith' kind _ left _ right) row h = cc
  faultless (expr.Compare' kind _ left _ right) row h = two_faultless _ (only left row) (only right row) (faultless_in left row (left_false _ (arith_in right) h)) (faultless_in right row (right_false (arith_in left) _ h))
  faultless (expr.And' _ left _ right) row h = two_faultless _ (only left row) (only right row) (faultless_in left row (left_false _ (arith_in right) h)) (faultless_in right row (right_false (arith_in left) _ h))
  faultless (expr.Or' _ left _ right) row h = two_faultless _ (only left row) (only right row) (faultless_in left row (left_false _ (arith_in right) h)) (faultless_in right row (right_false (arith_in left) _ h))
  faultless (expr.Not' _ of) row h = one_faultless _ (only of row) (faultless_in of row h)
  faultless (expr.IsNull' _ of) row h = one_faultless _ (only of row) (faultless_in of row h)

  pub faultless_in : {m : _} (of : Row_of-Expr m) (row : List Value) → arith_in of ≡ false → is_fault (only of row) ≡ false
  faultless_in end_of-Expr row h = refl
  faultless_in (more_of-Expr e rest) row h = faultless e row h
