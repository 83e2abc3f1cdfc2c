-- What an expression is made of, from its operands.
use Rattle.std.proofs.Common.{◌≡◌, ℕ, suc, ◌+◌, ◌-◌, ◌^◌, Bool, true, false, ◌||◌, refl, sym, ap, subst, ◌∙◌, arith, min}
use Rattle.hq_value.specs.declared.operator.ArithKind.{ArithKind}
use Rattle.hq_value.specs.declared.operator.CompareKind.{CompareKind}
use Rattle.hq_algebra.specs.declared.expr.Expr.{Expr}
use Rattle.hq_algebra.specs.declared.expr.Expr.TheVariants as expr
use Rattle.hq_algebra.specs.declared.expr.Expr.TheBlock.{hidden-the_row-Expr-0}
use denote.Hole.Carrier.{hidden}
use Rattle.hq_algebra.specs.Shape.{parts, has_arith, has_column}
use Rattle.hq_planwire.specs.declared.shape.Shape.{Shape}
use Rattle.hq_planwire.specs.Rules.{counted, shape_of}

abbrev pub two : Shape → Shape → Shape
two a b = record { parts = counted (counted (1 + a.parts) + b.parts); arith = a.arith || b.arith; column = a.column || b.column }

abbrev pub one : Shape → Shape
one a = record { parts = counted (1 + a.parts); arith = a.arith; column = a.column }

abbrev pub with_arith : Shape → Shape
with_arith a = record { parts = a.parts; arith = true; column = a.column }

two_parts : (a b : ℕ) → counted (counted (1 + counted a) + counted b) ≡ counted (suc (a + b))
two_parts a b = omega arith

one_parts : (a : ℕ) → counted (1 + counted a) ≡ counted (suc a)
one_parts a = omega arith

make : Bool → Bool → ℕ → Shape
make arith column parts = record { parts = parts; arith = arith; column = column }

arith_is : (k : ArithKind) (l r : Expr) → with_arith (two (shape_of l) (shape_of r)) ≡ shape_of (expr.Arith k l r)
unfolding make hidden-the_row-Expr-0 hidden
arith_is k l r = ap (make true (has_column l || has_column r)) (two_parts (parts l) (parts r))

pub arith_shape : (k : ArithKind) (e l r x y : Expr) (a b s : Shape) → e ≡ expr.Arith k l r → x ≡ l → y ≡ r → a ≡ shape_of x → b ≡ shape_of y → s ≡ with_arith (two a b) → s ≡ shape_of e
arith_shape k e l r x y a b s is xl yr ha hb hs =
    hs ∙ (λ i. with_arith (two ((ha ∙ ap shape_of xl) i) ((hb ∙ ap shape_of yr) i))) ∙ arith_is k l r ∙ ap shape_of (sym is)

compare_is : (k : CompareKind) (l r : Expr) → two (shape_of l) (shape_of r) ≡ shape_of (expr.Compare k l r)
unfolding make hidden-the_row-Expr-0 hidden
compare_is k l r = ap (make (has_arith l || has_arith r) (has_column l || has_column r)) (two_parts (parts l) (parts r))

pub compare_shape : (k : CompareKind) (e l r x y : Expr) (a b s : Shape) → e ≡ expr.Compare k l r → x ≡ l → y ≡ r → a ≡ shape_of x → b ≡ shape_of y → s ≡ two a b → s ≡ shape_of e
compare_shape k e l r x y a b s is xl yr ha hb hs =
    hs ∙ (λ i. two ((ha ∙ ap shape_of xl) i) ((hb ∙ ap shape_of yr) i)) ∙ compare_is k l r ∙ ap shape_of (sym is)

and_is : (l r : Expr) → two (shape_of l) (shape_of r) ≡ shape_of (expr.And l r)
unfolding make hidden-the_row-Expr-0 hidden
and_is l r = ap (make (has_arith l || has_arith r) (has_column l || has_column r)) (two_parts (parts l) (parts r))

pub and_shape : (e l r x y : Expr) (a b s : Shape) → e ≡ expr.And l r → x ≡ l → y ≡ r → a ≡ shape_of x → b ≡ shape_of y → s ≡ two a b → s ≡ shape_of e
and_shape e l r x y a b s is xl yr ha hb hs =
    hs ∙ (λ i. two ((ha ∙ ap shape_of xl) i) ((hb ∙ ap shape_of yr) i)) ∙ and_is l r ∙ ap shape_of (sym is)

or_is : (l r : Expr) → two (shape_of l) (shape_of r) ≡ shape_of (expr.Or l r)
unfolding make hidden-the_row-Expr-0 hidden
or_is l r = ap (make (has_arith l || has_arith r) (has_column l || has_column r)) (two_parts (parts l) (parts r))

pub or_shape : (e l r x y : Expr) (a b s : Shape) → e ≡ expr.Or l r → x ≡ l → y ≡ r → a ≡ shape_of x → b ≡ shape_of y → s ≡ two a b → s ≡ shape_of e
or_shape e l r x y a b s is xl yr ha hb hs =
    hs ∙ (λ i. two ((ha ∙ ap shape_of xl) i) ((hb ∙ ap shape_of yr) i)) ∙ or_is l r ∙ ap shape_of (sym is)

not_is : (a : Expr) → one (shape_of a) ≡ shape_of (expr.Not a)
unfolding make hidden-the_row-Expr-0 hidden
not_is a = ap (make (has_arith a) (has_column a)) (one_parts (parts a))

pub not_shape : (e l x : Expr) (a s : Shape) → e ≡ expr.Not l → x ≡ l → a ≡ shape_of x → s ≡ one a → s ≡ shape_of e
not_shape e l x a s is xl ha hs = hs ∙ ap one (ha ∙ ap shape_of xl) ∙ not_is l ∙ ap shape_of (sym is)

is_null_is : (a : Expr) → one (shape_of a) ≡ shape_of (expr.IsNull a)
unfolding make hidden-the_row-Expr-0 hidden
is_null_is a = ap (make (has_arith a) (has_column a)) (one_parts (parts a))

pub is_null_shape : (e l x : Expr) (a s : Shape) → e ≡ expr.IsNull l → x ≡ l → a ≡ shape_of x → s ≡ one a → s ≡ shape_of e
is_null_shape e l x a s is xl ha hs = hs ∙ ap one (ha ∙ ap shape_of xl) ∙ is_null_is l ∙ ap shape_of (sym is)
