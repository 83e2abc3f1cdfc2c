-- What the tests of an expression are at each of its nodes.
use Rattle.std.proofs.Common.{◌≡◌, ℕ, suc, ◌+◌, ◌||◌, ◌&&◌, refl}
use denote.Hole.Carrier.{hidden}
use Rattle.hq_value.specs.declared.operator.ArithKind.{ArithKind}
use Rattle.hq_value.specs.declared.operator.CompareKind.{CompareKind}
use Rattle.hq_algebra.specs.declared.expr.Expr.{Expr}
use Rattle.hq_algebra.specs.declared.expr.Expr.TheVariants as x
use Rattle.hq_algebra.specs.declared.expr.Expr.TheBlock.{hidden-the_row-Expr-0}
use Rattle.hq_algebra.specs.Shape.{parts, has_arith, has_column}
use Rattle.hq_algebra.specs.Rules.{is_below}

pub parts-Arith : (k : ArithKind) (a b : Expr) → parts (x.Arith k a b) ≡ suc (parts a + parts b)
unfolding hidden-the_row-Expr-0 hidden
parts-Arith k a b = refl

pub column-Arith : (k : ArithKind) (a b : Expr) → has_column (x.Arith k a b) ≡ (has_column a || has_column b)
unfolding hidden-the_row-Expr-0 hidden
column-Arith k a b = refl

pub below-Arith : (n : ℕ) (k : ArithKind) (a b : Expr) → is_below n (x.Arith k a b) ≡ (is_below n a && is_below n b)
unfolding hidden-the_row-Expr-0 hidden
below-Arith n k a b = refl

pub parts-Compare : (k : CompareKind) (a b : Expr) → parts (x.Compare k a b) ≡ suc (parts a + parts b)
unfolding hidden-the_row-Expr-0 hidden
parts-Compare k a b = refl

pub column-Compare : (k : CompareKind) (a b : Expr) → has_column (x.Compare k a b) ≡ (has_column a || has_column b)
unfolding hidden-the_row-Expr-0 hidden
column-Compare k a b = refl

pub arith-Compare : (k : CompareKind) (a b : Expr) → has_arith (x.Compare k a b) ≡ (has_arith a || has_arith b)
unfolding hidden-the_row-Expr-0 hidden
arith-Compare k a b = refl

pub below-Compare : (n : ℕ) (k : CompareKind) (a b : Expr) → is_below n (x.Compare k a b) ≡ (is_below n a && is_below n b)
unfolding hidden-the_row-Expr-0 hidden
below-Compare n k a b = refl

pub parts-And : (a b : Expr) → parts (x.And a b) ≡ suc (parts a + parts b)
unfolding hidden-the_row-Expr-0 hidden
parts-And a b = refl

pub column-And : (a b : Expr) → has_column (x.And a b) ≡ (has_column a || has_column b)
unfolding hidden-the_row-Expr-0 hidden
column-And a b = refl

pub arith-And : (a b : Expr) → has_arith (x.And a b) ≡ (has_arith a || has_arith b)
unfolding hidden-the_row-Expr-0 hidden
arith-And a b = refl

pub below-And : (n : ℕ) (a b : Expr) → is_below n (x.And a b) ≡ (is_below n a && is_below n b)
unfolding hidden-the_row-Expr-0 hidden
below-And n a b = refl

pub parts-Or : (a b : Expr) → parts (x.Or a b) ≡ suc (parts a + parts b)
unfolding hidden-the_row-Expr-0 hidden
parts-Or a b = refl

pub column-Or : (a b : Expr) → has_column (x.Or a b) ≡ (has_column a || has_column b)
unfolding hidden-the_row-Expr-0 hidden
column-Or a b = refl

pub arith-Or : (a b : Expr) → has_arith (x.Or a b) ≡ (has_arith a || has_arith b)
unfolding hidden-the_row-Expr-0 hidden
arith-Or a b = refl

pub below-Or : (n : ℕ) (a b : Expr) → is_below n (x.Or a b) ≡ (is_below n a && is_below n b)
unfolding hidden-the_row-Expr-0 hidden
below-Or n a b = refl

pub parts-Not : (a : Expr) → parts (x.Not a) ≡ suc (parts a)
unfolding hidden-the_row-Expr-0 hidden
parts-Not a = refl

pub column-Not : (a : Expr) → has_column (x.Not a) ≡ has_column a
unfolding hidden-the_row-Expr-0 hidden
column-Not a = refl

pub arith-Not : (a : Expr) → has_arith (x.Not a) ≡ has_arith a
unfolding hidden-the_row-Expr-0 hidden
arith-Not a = refl

pub below-Not : (n : ℕ) (a : Expr) → is_below n (x.Not a) ≡ is_below n a
unfolding hidden-the_row-Expr-0 hidden
below-Not n a = refl

pub parts-IsNull : (a : Expr) → parts (x.IsNull a) ≡ suc (parts a)
unfolding hidden-the_row-Expr-0 hidden
parts-IsNull a = refl

pub column-IsNull : (a : Expr) → has_column (x.IsNull a) ≡ has_column a
unfolding hidden-the_row-Expr-0 hidden
column-IsNull a = refl

pub arith-IsNull : (a : Expr) → has_arith (x.IsNull a) ≡ has_arith a
unfolding hidden-the_row-Expr-0 hidden
arith-IsNull a = refl

pub below-IsNull : (n : ℕ) (a : Expr) → is_below n (x.IsNull a) ≡ is_below n a
unfolding hidden-the_row-Expr-0 hidden
below-IsNull n a = refl
