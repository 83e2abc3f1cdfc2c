-- What the functions on trees are at each node.
use Rattle.std.proofs.Common.{◌≡◌, ℕ, suc, ◌+◌, Bool, false, ◌&&◌, refl}
use denote.Hole.Carrier.{hidden}
use Rattle.hq_expr.specs.declared.tree.AggregateKind.{AggregateKind}
use Rattle.hq_value.specs.declared.operator.ArithKind.{ArithKind}
use Rattle.hq_value.specs.declared.operator.CompareKind.{CompareKind}
use Rattle.hq_expr.specs.declared.tree.SqlExpr.{SqlExpr}
use Rattle.hq_expr.specs.declared.tree.SqlExpr.TheVariants as e
use Rattle.hq_expr.specs.declared.tree.SqlExpr.TheBlock.{hidden-the_row-SqlExpr-0}
use Rattle.hq_expr.specs.Uses.{uses, either, aggregated}
use Rattle.hq_expr.specs.Shape.{weight, is_sum, is_operand, is_cond}

pub uses-Aggregate : (kind : AggregateKind) (x : SqlExpr) → uses (e.Aggregate kind x) ≡ aggregated kind (uses x)
unfolding hidden-the_row-SqlExpr-0 hidden
uses-Aggregate kind x = refl

pub uses-Arith : (kind : ArithKind) (x y : SqlExpr) → uses (e.Arith kind x y) ≡ either (uses x) (uses y)
unfolding hidden-the_row-SqlExpr-0 hidden
uses-Arith kind x y = refl

pub uses-Compare : (kind : CompareKind) (x y : SqlExpr) → uses (e.Compare kind x y) ≡ either (uses x) (uses y)
unfolding hidden-the_row-SqlExpr-0 hidden
uses-Compare kind x y = refl

pub uses-And : (x y : SqlExpr) → uses (e.And x y) ≡ either (uses x) (uses y)
unfolding hidden-the_row-SqlExpr-0 hidden
uses-And x y = refl

pub uses-Or : (x y : SqlExpr) → uses (e.Or x y) ≡ either (uses x) (uses y)
unfolding hidden-the_row-SqlExpr-0 hidden
uses-Or x y = refl

pub uses-Not : (x : SqlExpr) → uses (e.Not x) ≡ uses x
unfolding hidden-the_row-SqlExpr-0 hidden
uses-Not x = refl

pub uses-IsNull : (x : SqlExpr) → uses (e.IsNull x) ≡ uses x
unfolding hidden-the_row-SqlExpr-0 hidden
uses-IsNull x = refl

pub weight-Aggregate : (kind : AggregateKind) (x : SqlExpr) → weight (e.Aggregate kind x) ≡ suc (weight x)
unfolding hidden-the_row-SqlExpr-0 hidden
weight-Aggregate kind x = refl

pub weight-Arith : (kind : ArithKind) (x y : SqlExpr) → weight (e.Arith kind x y) ≡ suc (weight x + weight y)
unfolding hidden-the_row-SqlExpr-0 hidden
weight-Arith kind x y = refl

pub weight-Compare : (kind : CompareKind) (x y : SqlExpr) → weight (e.Compare kind x y) ≡ suc (weight x + weight y)
unfolding hidden-the_row-SqlExpr-0 hidden
weight-Compare kind x y = refl

pub weight-And : (x y : SqlExpr) → weight (e.And x y) ≡ suc (weight x + weight y)
unfolding hidden-the_row-SqlExpr-0 hidden
weight-And x y = refl

pub weight-Or : (x y : SqlExpr) → weight (e.Or x y) ≡ suc (weight x + weight y)
unfolding hidden-the_row-SqlExpr-0 hidden
weight-Or x y = refl

pub weight-Not : (x : SqlExpr) → weight (e.Not x) ≡ suc (weight x)
unfolding hidden-the_row-SqlExpr-0 hidden
weight-Not x = refl

pub weight-IsNull : (x : SqlExpr) → weight (e.IsNull x) ≡ suc (weight x)
unfolding hidden-the_row-SqlExpr-0 hidden
weight-IsNull x = refl

pub sum-Aggregate : (aggs : Bool) (kind : AggregateKind) (x : SqlExpr) → is_sum aggs (e.Aggregate kind x) ≡ (aggs && is_sum false x)
unfolding hidden-the_row-SqlExpr-0 hidden
sum-Aggregate aggs kind x = refl

pub sum-Arith : (aggs : Bool) (kind : ArithKind) (x y : SqlExpr) → is_sum aggs (e.Arith kind x y) ≡ (is_sum aggs x && is_sum aggs y)
unfolding hidden-the_row-SqlExpr-0 hidden
sum-Arith aggs kind x y = refl

pub operand-Aggregate : (aggs : Bool) (kind : AggregateKind) (x : SqlExpr) → is_operand aggs (e.Aggregate kind x) ≡ (aggs && is_sum false x)
unfolding hidden-the_row-SqlExpr-0 hidden
operand-Aggregate aggs kind x = refl

pub cond-Compare : (aggs : Bool) (kind : CompareKind) (x y : SqlExpr) → is_cond aggs (e.Compare kind x y) ≡ (is_operand aggs x && is_operand aggs y)
unfolding hidden-the_row-SqlExpr-0 hidden
cond-Compare aggs kind x y = refl

pub cond-And : (aggs : Bool) (x y : SqlExpr) → is_cond aggs (e.And x y) ≡ (is_cond aggs x && is_cond aggs y)
unfolding hidden-the_row-SqlExpr-0 hidden
cond-And aggs x y = refl

pub cond-Or : (aggs : Bool) (x y : SqlExpr) → is_cond aggs (e.Or x y) ≡ (is_cond aggs x && is_cond aggs y)
unfolding hidden-the_row-SqlExpr-0 hidden
cond-Or aggs x y = refl

pub cond-Not : (aggs : Bool) (x : SqlExpr) → is_cond aggs (e.Not x) ≡ is_cond aggs x
unfolding hidden-the_row-SqlExpr-0 hidden
cond-Not aggs x = refl

pub cond-IsNull : (aggs : Bool) (x : SqlExpr) → is_cond aggs (e.IsNull x) ≡ is_operand aggs x
unfolding hidden-the_row-SqlExpr-0 hidden
cond-IsNull aggs x = refl
