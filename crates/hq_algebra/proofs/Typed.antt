-- What `expr_kind` is at each part of an expression.
use Rattle.std.proofs.Common.{◌≡◌, Bool, ◌&&◌, List, refl, ap}
use Rattle.std.specs.Cmp.Lexicographic.{pointwise}
use Rattle.hq_value.specs.declared.kind.Kind.{Kind}
use Rattle.hq_value.specs.declared.kind.Kind.TheVariants as kind
use Rattle.hq_value.specs.contracts.kind.KindPartialEq.TheImpl as equality
use Rattle.hq_value.specs.declared.operator.ArithKind.{ArithKind}
use Rattle.hq_value.specs.declared.operator.CompareKind.{CompareKind}
use Rattle.hq_algebra.specs.declared.expr.Expr.{Expr}
use Rattle.hq_algebra.specs.declared.expr.Expr.TheVariants as e
use Rattle.hq_algebra.specs.declared.expr.Expr.TheBlock.{hidden-the_row-Expr-0}
use Rattle.hq_algebra.specs.declared.kinds.ExprKind.{ExprKind}
use denote.Hole.Carrier.{hidden}
use Rattle.hq_algebra.specs.Kinds.{same_kind, same_kinds, expr_kind, kind_if, is_of, are_alike, has_kind}

-- the kind of a part whose operands are asked to be of one kind
abbrev pub asked : Kind → ExprKind → ExprKind → ExprKind
asked k a b = kind_if (is_of k a && is_of k b) k

abbrev pub alike : ExprKind → ExprKind → ExprKind
alike a b = kind_if (are_alike a b) kind.Bool

pub same_asked : (f : ExprKind → ExprKind → ExprKind) {a b x y : ExprKind} → a ≡ x → b ≡ y → f a b ≡ f x y
same_asked f p q = cc

pub expr_kind-Arith : (kinds : List Kind) (step : ArithKind) (x y : Expr) → expr_kind kinds (e.Arith step x y) ≡ asked kind.Int (expr_kind kinds x) (expr_kind kinds y)
unfolding hidden-the_row-Expr-0 hidden
expr_kind-Arith kinds step x y = refl

pub expr_kind-Compare : (kinds : List Kind) (test : CompareKind) (x y : Expr) → expr_kind kinds (e.Compare test x y) ≡ alike (expr_kind kinds x) (expr_kind kinds y)
unfolding hidden-the_row-Expr-0 hidden
expr_kind-Compare kinds test x y = refl

pub expr_kind-And : (kinds : List Kind) (x y : Expr) → expr_kind kinds (e.And x y) ≡ asked kind.Bool (expr_kind kinds x) (expr_kind kinds y)
unfolding hidden-the_row-Expr-0 hidden
expr_kind-And kinds x y = refl

pub expr_kind-Or : (kinds : List Kind) (x y : Expr) → expr_kind kinds (e.Or x y) ≡ asked kind.Bool (expr_kind kinds x) (expr_kind kinds y)
unfolding hidden-the_row-Expr-0 hidden
expr_kind-Or kinds x y = refl

pub expr_kind-Not : (kinds : List Kind) (x : Expr) → expr_kind kinds (e.Not x) ≡ kind_if (is_of kind.Bool (expr_kind kinds x)) kind.Bool
unfolding hidden-the_row-Expr-0 hidden
expr_kind-Not kinds x = refl

pub expr_kind-IsNull : (kinds : List Kind) (x : Expr) → expr_kind kinds (e.IsNull x) ≡ kind_if (has_kind (expr_kind kinds x)) kind.Bool
unfolding hidden-the_row-Expr-0 hidden
expr_kind-IsNull kinds x = refl

same_kind-derived : (a b : Kind) → (equality.ghosts).eq a b ≡ same_kind a b
same_kind-derived kind.Bool kind.Bool = refl
same_kind-derived kind.Bool kind.Int = refl
same_kind-derived kind.Bool kind.Text = refl
same_kind-derived kind.Int kind.Bool = refl
same_kind-derived kind.Int kind.Int = refl
same_kind-derived kind.Int kind.Text = refl
same_kind-derived kind.Text kind.Bool = refl
same_kind-derived kind.Text kind.Int = refl
same_kind-derived kind.Text kind.Text = refl

pub same_kinds-derived : (a b : List Kind) → pointwise (equality.ghosts).eq a b ≡ same_kinds a b
same_kinds-derived a b = ap (λ (eq : Kind → Kind → Bool). pointwise eq a b) (λ i x y. same_kind-derived x y i)
