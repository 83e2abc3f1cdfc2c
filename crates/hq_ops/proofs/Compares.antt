-- A comparison of values that stand in the row or in the condition.
use Rattle.std.proofs.Common.{◌≡◌, List, sym, ◌∙◌, ap}
use Rattle.hq_value.specs.declared.value.Value.{Value}
use Rattle.hq_value.specs.declared.operator.CompareKind.{CompareKind}
use Rattle.hq_algebra.specs.declared.expr.Expr.{Expr}
use Rattle.hq_algebra.specs.declared.expr.Expr.TheVariants as expr
use Rattle.hq_algebra.specs.Eval.{eval, or_null, is_true, is_true_at}
use Rattle.hq_algebra.specs.Outcome.{Is, of_two_values}
use Rattle.hq_algebra.specs.Steps.{compare_of}
use Rattle.hq_algebra.proofs.Nodes.{eval-Compare}

pub stand-compare : (cond : Expr) (kind : CompareKind) (x y v w : Expr) (row r s : List Value) (a b : Value) → cond ≡ expr.Compare kind x y
    → v ≡ x → r ≡ row → w ≡ y → s ≡ row → eval v r ≡ Is a → eval w s ≡ Is b → is_true (compare_of kind a b) ≡ is_true_at cond row
stand-compare cond kind x y v w row r s a b is ex er ey es l m =
    ap (λ o. is_true (or_null o)) ((λ i. of_two_values (compare_of kind) (sym left i) (sym right i)) ∙ sym (eval-Compare kind x y row)) ∙ ap (λ e. is_true_at e row) (sym is)
  where
    left : eval x row ≡ Is a
    left = (λ i. eval (sym ex i) (sym er i)) ∙ l

    right : eval y row ≡ Is b
    right = (λ i. eval (sym ey i) (sym es i)) ∙ m
