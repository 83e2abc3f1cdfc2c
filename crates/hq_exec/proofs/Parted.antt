-- The tests among the parts of a condition, case by case.
use Rattle.std.proofs.Common.{◌≡◌, ◌∙◌, ℕ, List, [], ◌∷◌, ◌++◌, append_assoc, append-nil, refl, sym, ap}
use Rattle.std.specs.Prelude.{flat_map}
use Rattle.std.proofs.lemmas.Grind.{flat_map-append}
use Rattle.hq_value.specs.declared.value.Value.{Value}
use Rattle.hq_value.specs.declared.kind.Kind.{Kind}
use Rattle.hq_value.specs.declared.operator.ArithKind.{ArithKind}
use Rattle.hq_value.specs.declared.operator.CompareKind.{CompareKind}
use Rattle.hq_block.specs.declared.skip.ColumnTest.{ColumnTest}
use Rattle.hq_algebra.specs.declared.expr.Expr.{Expr}
use Rattle.hq_algebra.specs.declared.expr.Expr.TheVariants as expr
use Rattle.hq_algebra.specs.declared.expr.Expr.TheBlock.{hidden-the_row-Expr-0}
use denote.Hole.Carrier.{hidden}
use Rattle.hq_laws.specs.Sources.{column_of, literal_of}
use Rattle.hq_laws.specs.Tests.{members}
use Rattle.hq_exec.specs.Skips.{test_on, test_of, tests_in}

-- no test is added
nothing : (kinds : List Kind) (before : List ColumnTest) (e f : Expr) → e ≡ f → tests_in kinds f ≡ [] → before ≡ before ++ tests_in kinds e
nothing kinds before e f is none = sym (ap (λ l. before ++ l) (ap (tests_in kinds) is ∙ none) ∙ append-nil before)

module _ (kinds : List Kind) (before : List ColumnTest) (e : Expr) where
  pub of-column : (place : ℕ) → e ≡ expr.Column place → before ≡ before ++ tests_in kinds e
  of-column place is = nothing kinds before e (expr.Column place) is refl

  pub of-literal : (v : Value) → e ≡ expr.Literal v → before ≡ before ++ tests_in kinds e
  of-literal v is = nothing kinds before e (expr.Literal v) is refl

  pub of-arith : (k : ArithKind) (l r : Expr) → e ≡ expr.Arith k l r → before ≡ before ++ tests_in kinds e
  unfolding hidden-the_row-Expr-0 hidden
  of-arith k l r is = nothing kinds before e (expr.Arith k l r) is refl

  pub of-or : (l r : Expr) → e ≡ expr.Or l r → before ≡ before ++ tests_in kinds e
  unfolding hidden-the_row-Expr-0 hidden
  of-or l r is = nothing kinds before e (expr.Or l r) is refl

  pub of-not : (l : Expr) → e ≡ expr.Not l → before ≡ before ++ tests_in kinds e
  unfolding hidden-the_row-Expr-0 hidden
  of-not l is = nothing kinds before e (expr.Not l) is refl

  pub of-null : (l : Expr) → e ≡ expr.IsNull l → before ≡ before ++ tests_in kinds e
  unfolding hidden-the_row-Expr-0 hidden
  of-null l is = nothing kinds before e (expr.IsNull l) is refl

  -- those of both sides are added
  pub of-and : (l r : Expr) (between after : List ColumnTest) → e ≡ expr.And l r → between ≡ before ++ tests_in kinds l → after ≡ between ++ tests_in kinds r → after ≡ before ++ tests_in kinds e
  unfolding hidden-the_row-Expr-0 hidden
  of-and l r between after is left right =
      right ∙ ap (λ t. t ++ tests_in kinds r) left ∙ append_assoc before (tests_in kinds l) (tests_in kinds r) ∙ ap (λ t. before ++ t) (sym (flat_map-append (test_of kinds) (members l) (members r)) ∙ sym (ap (tests_in kinds) is))

  -- the comparison is added, if it is a test
  pub of-compare : (how : CompareKind) (l r : Expr) (after : List ColumnTest) → e ≡ expr.Compare how l r → after ≡ before ++ test_on kinds how (column_of l) (literal_of r) → after ≡ before ++ tests_in kinds e
  unfolding hidden-the_row-Expr-0 hidden
  of-compare how l r after is one = one ∙ ap (λ t. before ++ t) (sym (append-nil (test_on kinds how (column_of l) (literal_of r))) ∙ sym (ap (tests_in kinds) is))
