-- What `eval` is at each part of an expression.
use Rattle.std.proofs.Common.{◌≡◌, List, refl}
use Rattle.hq_value.specs.declared.value.Value.{Value}
use Rattle.hq_value.specs.declared.operator.ArithKind.{ArithKind}
use Rattle.hq_value.specs.declared.operator.CompareKind.{CompareKind}
use Rattle.hq_algebra.specs.declared.expr.Expr.{Expr}
use Rattle.hq_algebra.specs.declared.expr.Expr.TheVariants as e
use Rattle.hq_algebra.specs.declared.expr.Expr.TheBlock.{hidden-the_row-Expr-0}
use denote.Hole.Carrier.{hidden}
use Rattle.hq_algebra.specs.Outcome.{Outcome, of_one, of_two, of_two_values}
use Rattle.hq_algebra.specs.Steps.{arith_of, compare_of, and_of, or_of, not_of, is_null_of}
use Rattle.hq_algebra.specs.Eval.{eval}

pub eval-Arith : (kind : ArithKind) (x y : Expr) (row : List Value) → eval (e.Arith kind x y) row ≡ of_two (arith_of kind) (eval x row) (eval y row)
unfolding hidden-the_row-Expr-0 hidden
eval-Arith kind x y row = refl

pub eval-Compare : (kind : CompareKind) (x y : Expr) (row : List Value) → eval (e.Compare kind x y) row ≡ of_two_values (compare_of kind) (eval x row) (eval y row)
unfolding hidden-the_row-Expr-0 hidden
eval-Compare kind x y row = refl

pub eval-And : (x y : Expr) (row : List Value) → eval (e.And x y) row ≡ of_two_values and_of (eval x row) (eval y row)
unfolding hidden-the_row-Expr-0 hidden
eval-And x y row = refl

pub eval-Or : (x y : Expr) (row : List Value) → eval (e.Or x y) row ≡ of_two_values or_of (eval x row) (eval y row)
unfolding hidden-the_row-Expr-0 hidden
eval-Or x y row = refl

pub eval-Not : (x : Expr) (row : List Value) → eval (e.Not x) row ≡ of_one not_of (eval x row)
unfolding hidden-the_row-Expr-0 hidden
eval-Not x row = refl

pub eval-IsNull : (x : Expr) (row : List Value) → eval (e.IsNull x) row ≡ of_one is_null_of (eval x row)
unfolding hidden-the_row-Expr-0 hidden
eval-IsNull x row = refl

pub same_of : (f : Outcome → Outcome → Outcome) {a b x y : Outcome} → a ≡ x → b ≡ y → f a b ≡ f x y
same_of f p q = cc
