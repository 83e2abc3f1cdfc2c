-- What the definitions are at each node of an expression as it is read.
use Rattle.std.proofs.Common.{◌≡◌, ℕ, List, [], ◌∷◌, ◌++◌, refl}
use denote.Hole.Carrier.{hidden}
use Rattle.hq_value.specs.declared.operator.ArithKind.{ArithKind}
use Rattle.hq_value.specs.declared.operator.CompareKind.{CompareKind}
use Rattle.hq_value.specs.declared.kind.Kind.TheVariants as kind
use Rattle.hq_expr.specs.declared.tree.AggregateKind.{AggregateKind}
use Rattle.hq_expr.specs.declared.tree.SqlExpr.{SqlExpr}
use Rattle.hq_expr.specs.declared.tree.SqlExpr.TheVariants as e
use Rattle.hq_expr.specs.declared.tree.SqlExpr.TheBlock.{hidden-the_row-SqlExpr-0}
use Rattle.hq_algebra.specs.declared.aggregate.Aggregate.{Aggregate}
use Rattle.hq_algebra.specs.declared.expr.Expr.TheVariants as expr
use Rattle.hq_bind.specs.declared.scope.SourceColumn.{SourceColumn}
use Rattle.hq_bind.specs.Findings.{findings, of_aggregate, of_two, of_compared, of_not, of_null_test}
use Rattle.hq_bind.specs.Bound.{placed, over_groups, aggregates_in, aggregate_of}

pub findings_aggregate : (cs : List SourceColumn) (gs : List ℕ) (k : AggregateKind) (x : SqlExpr) → findings cs gs (e.Aggregate k x) ≡ of_aggregate k (findings cs gs x)
unfolding hidden-the_row-SqlExpr-0 hidden
findings_aggregate cs gs k x = refl

pub findings_arith : (cs : List SourceColumn) (gs : List ℕ) (k : ArithKind) (x y : SqlExpr) → findings cs gs (e.Arith k x y) ≡ of_two kind.Int (findings cs gs x) (findings cs gs y)
unfolding hidden-the_row-SqlExpr-0 hidden
findings_arith cs gs k x y = refl

pub findings_compare : (cs : List SourceColumn) (gs : List ℕ) (k : CompareKind) (x y : SqlExpr) → findings cs gs (e.Compare k x y) ≡ of_compared (findings cs gs x) (findings cs gs y)
unfolding hidden-the_row-SqlExpr-0 hidden
findings_compare cs gs k x y = refl

pub findings_and : (cs : List SourceColumn) (gs : List ℕ) (x y : SqlExpr) → findings cs gs (e.And x y) ≡ of_two kind.Bool (findings cs gs x) (findings cs gs y)
unfolding hidden-the_row-SqlExpr-0 hidden
findings_and cs gs x y = refl

pub findings_or : (cs : List SourceColumn) (gs : List ℕ) (x y : SqlExpr) → findings cs gs (e.Or x y) ≡ of_two kind.Bool (findings cs gs x) (findings cs gs y)
unfolding hidden-the_row-SqlExpr-0 hidden
findings_or cs gs x y = refl

pub findings_not : (cs : List SourceColumn) (gs : List ℕ) (x : SqlExpr) → findings cs gs (e.Not x) ≡ of_not (findings cs gs x)
unfolding hidden-the_row-SqlExpr-0 hidden
findings_not cs gs x = refl

pub findings_is_null : (cs : List SourceColumn) (gs : List ℕ) (x : SqlExpr) → findings cs gs (e.IsNull x) ≡ of_null_test (findings cs gs x)
unfolding hidden-the_row-SqlExpr-0 hidden
findings_is_null cs gs x = refl

pub placed_arith : (cs : List SourceColumn) (k : ArithKind) (x y : SqlExpr) → placed cs (e.Arith k x y) ≡ expr.Arith k (placed cs x) (placed cs y)
unfolding hidden-the_row-SqlExpr-0 hidden
placed_arith cs k x y = refl

pub over_arith : (cs : List SourceColumn) (gs : List ℕ) (before : List Aggregate) (k : ArithKind) (x y : SqlExpr) → over_groups cs gs before (e.Arith k x y) ≡ expr.Arith k (over_groups cs gs before x) (over_groups cs gs (before ++ aggregates_in cs x) y)
unfolding hidden-the_row-SqlExpr-0 hidden
over_arith cs gs before k x y = refl

pub aggregates_arith : (cs : List SourceColumn) (k : ArithKind) (x y : SqlExpr) → aggregates_in cs (e.Arith k x y) ≡ aggregates_in cs x ++ aggregates_in cs y
unfolding hidden-the_row-SqlExpr-0 hidden
aggregates_arith cs k x y = refl

pub placed_compare : (cs : List SourceColumn) (k : CompareKind) (x y : SqlExpr) → placed cs (e.Compare k x y) ≡ expr.Compare k (placed cs x) (placed cs y)
unfolding hidden-the_row-SqlExpr-0 hidden
placed_compare cs k x y = refl

pub over_compare : (cs : List SourceColumn) (gs : List ℕ) (before : List Aggregate) (k : CompareKind) (x y : SqlExpr) → over_groups cs gs before (e.Compare k x y) ≡ expr.Compare k (over_groups cs gs before x) (over_groups cs gs (before ++ aggregates_in cs x) y)
unfolding hidden-the_row-SqlExpr-0 hidden
over_compare cs gs before k x y = refl

pub aggregates_compare : (cs : List SourceColumn) (k : CompareKind) (x y : SqlExpr) → aggregates_in cs (e.Compare k x y) ≡ aggregates_in cs x ++ aggregates_in cs y
unfolding hidden-the_row-SqlExpr-0 hidden
aggregates_compare cs k x y = refl

pub placed_and : (cs : List SourceColumn) (x y : SqlExpr) → placed cs (e.And x y) ≡ expr.And (placed cs x) (placed cs y)
unfolding hidden-the_row-SqlExpr-0 hidden
placed_and cs x y = refl

pub over_and : (cs : List SourceColumn) (gs : List ℕ) (before : List Aggregate) (x y : SqlExpr) → over_groups cs gs before (e.And x y) ≡ expr.And (over_groups cs gs before x) (over_groups cs gs (before ++ aggregates_in cs x) y)
unfolding hidden-the_row-SqlExpr-0 hidden
over_and cs gs before x y = refl

pub aggregates_and : (cs : List SourceColumn) (x y : SqlExpr) → aggregates_in cs (e.And x y) ≡ aggregates_in cs x ++ aggregates_in cs y
unfolding hidden-the_row-SqlExpr-0 hidden
aggregates_and cs x y = refl

pub placed_or : (cs : List SourceColumn) (x y : SqlExpr) → placed cs (e.Or x y) ≡ expr.Or (placed cs x) (placed cs y)
unfolding hidden-the_row-SqlExpr-0 hidden
placed_or cs x y = refl

pub over_or : (cs : List SourceColumn) (gs : List ℕ) (before : List Aggregate) (x y : SqlExpr) → over_groups cs gs before (e.Or x y) ≡ expr.Or (over_groups cs gs before x) (over_groups cs gs (before ++ aggregates_in cs x) y)
unfolding hidden-the_row-SqlExpr-0 hidden
over_or cs gs before x y = refl

pub aggregates_or : (cs : List SourceColumn) (x y : SqlExpr) → aggregates_in cs (e.Or x y) ≡ aggregates_in cs x ++ aggregates_in cs y
unfolding hidden-the_row-SqlExpr-0 hidden
aggregates_or cs x y = refl

pub placed_not : (cs : List SourceColumn) (x : SqlExpr) → placed cs (e.Not x) ≡ expr.Not (placed cs x)
unfolding hidden-the_row-SqlExpr-0 hidden
placed_not cs x = refl

pub over_not : (cs : List SourceColumn) (gs : List ℕ) (before : List Aggregate) (x : SqlExpr) → over_groups cs gs before (e.Not x) ≡ expr.Not (over_groups cs gs before x)
unfolding hidden-the_row-SqlExpr-0 hidden
over_not cs gs before x = refl

pub aggregates_not : (cs : List SourceColumn) (x : SqlExpr) → aggregates_in cs (e.Not x) ≡ aggregates_in cs x
unfolding hidden-the_row-SqlExpr-0 hidden
aggregates_not cs x = refl

pub placed_is_null : (cs : List SourceColumn) (x : SqlExpr) → placed cs (e.IsNull x) ≡ expr.IsNull (placed cs x)
unfolding hidden-the_row-SqlExpr-0 hidden
placed_is_null cs x = refl

pub over_is_null : (cs : List SourceColumn) (gs : List ℕ) (before : List Aggregate) (x : SqlExpr) → over_groups cs gs before (e.IsNull x) ≡ expr.IsNull (over_groups cs gs before x)
unfolding hidden-the_row-SqlExpr-0 hidden
over_is_null cs gs before x = refl

pub aggregates_is_null : (cs : List SourceColumn) (x : SqlExpr) → aggregates_in cs (e.IsNull x) ≡ aggregates_in cs x
unfolding hidden-the_row-SqlExpr-0 hidden
aggregates_is_null cs x = refl

pub aggregates_aggregate : (cs : List SourceColumn) (k : AggregateKind) (x : SqlExpr) → aggregates_in cs (e.Aggregate k x) ≡ aggregate_of k (placed cs x) ∷ []
unfolding hidden-the_row-SqlExpr-0 hidden
aggregates_aggregate cs k x = refl

pub ruleset findings_nodes = (findings_aggregate, findings_arith, findings_compare, findings_and, findings_or, findings_not, findings_is_null)

pub ruleset placed_nodes = (placed_arith, placed_compare, placed_and, placed_or, placed_not, placed_is_null)

pub ruleset aggregates_nodes = (aggregates_aggregate, aggregates_arith, aggregates_compare, aggregates_and, aggregates_or, aggregates_not, aggregates_is_null)

pub ruleset over_nodes = (over_arith, over_compare, over_and, over_or, over_not, over_is_null)
