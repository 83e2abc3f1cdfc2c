use Rattle.std.proofs.Common.{◌≡◌, ℕ, List, ◌++◌, ap, ◌∙◌, append_assoc}
use Rattle.hq_expr.specs.declared.tree.SqlExpr.{SqlExpr}
use Rattle.hq_algebra.specs.declared.expr.Expr.{Expr}
use Rattle.hq_algebra.specs.declared.expr.Expr.TheVariants as expr
use Rattle.hq_algebra.specs.declared.aggregate.Aggregate.{Aggregate}
use Rattle.hq_bind.specs.declared.scope.SourceColumn.{SourceColumn}
use Rattle.hq_bind.specs.Bound.{over_groups, aggregates_in}
use Rattle.hq_bind.proofs.AtNodes.{over_arith, over_compare, over_and, over_or, aggregates_aggregate, aggregates_arith, aggregates_compare, aggregates_and, aggregates_or}
use Rattle.hq_bind.proofs.outputs.+over_groups.Goals as goal

-- two operands, of which the second stands behind the aggregates of the first
operands : (make : Expr → Expr → Expr) (cs : List SourceColumn) (gs : List ℕ) (old mid : List Aggregate) (x y : SqlExpr) (l r a b : Expr) → a ≡ l → b ≡ r → l ≡ over_groups cs gs old x
    → mid ≡ old ++ aggregates_in cs x → r ≡ over_groups cs gs mid y → make a b ≡ make (over_groups cs gs old x) (over_groups cs gs (old ++ aggregates_in cs x) y)
operands make cs gs old mid x y l r a b p q h m k = λ i. make ((p ∙ h) i) ((q ∙ k ∙ ap (λ (z : List Aggregate). over_groups cs gs z y) m) i)

joined : (old mid new xs ys : List Aggregate) → mid ≡ old ++ xs → new ≡ mid ++ ys → new ≡ old ++ (xs ++ ys)
joined old mid new xs ys m n = n ∙ ap (λ (z : List Aggregate). z ++ ys) m ∙ append_assoc old xs ys

pub returns-in_ok-of-in-Aggregate-clause-aggregates : goal.returns-in_ok-of-in-Aggregate-clause-aggregates
returns-in_ok-of-in-Aggregate-clause-aggregates t c = rw (c.in-Aggregate.is, aggregates_aggregate) (rw (c.aggregate_of.ensures, c.in_ok-of-in-Aggregate.ensures, c.get.ensures) at c.with_aggregate-in-Aggregate.ensures.aggregates)

pub returns-in_ok-new-in-Arith-2-clause-expr : goal.returns-in_ok-new-in-Arith-2-clause-expr
returns-in_ok-new-in-Arith-2-clause-expr t c = rw (c.in-Arith.is, over_arith) (operands (expr.Arith c.in-Arith.kind) _ _ _ _ _ _ _ _ _ _ c.in_ok-new-in-Arith.ensures c.in_ok-new-in-Arith-2.ensures
    (rw c.get-in-Arith.ensures at c.in_ok-left-in-Arith.ensures.expr) (rw c.get-in-Arith.ensures at c.in_ok-left-in-Arith.ensures.aggregates) (rw c.get-in-Arith-2.ensures at c.in_ok-right-in-Arith.ensures.expr))

pub returns-in_ok-new-in-Arith-2-clause-aggregates : goal.returns-in_ok-new-in-Arith-2-clause-aggregates
returns-in_ok-new-in-Arith-2-clause-aggregates t c = rw (c.in-Arith.is, aggregates_arith) (joined _ _ _ _ _ (rw c.get-in-Arith.ensures at c.in_ok-left-in-Arith.ensures.aggregates) (rw c.get-in-Arith-2.ensures at c.in_ok-right-in-Arith.ensures.aggregates))

pub returns-in_ok-new-in-Compare-2-clause-expr : goal.returns-in_ok-new-in-Compare-2-clause-expr
returns-in_ok-new-in-Compare-2-clause-expr t c = rw (c.in-Compare.is, over_compare) (operands (expr.Compare c.in-Compare.kind) _ _ _ _ _ _ _ _ _ _ c.in_ok-new-in-Compare.ensures c.in_ok-new-in-Compare-2.ensures
    (rw c.get-in-Compare.ensures at c.in_ok-left-in-Compare.ensures.expr) (rw c.get-in-Compare.ensures at c.in_ok-left-in-Compare.ensures.aggregates) (rw c.get-in-Compare-2.ensures at c.in_ok-right-in-Compare.ensures.expr))

pub returns-in_ok-new-in-Compare-2-clause-aggregates : goal.returns-in_ok-new-in-Compare-2-clause-aggregates
returns-in_ok-new-in-Compare-2-clause-aggregates t c = rw (c.in-Compare.is, aggregates_compare) (joined _ _ _ _ _ (rw c.get-in-Compare.ensures at c.in_ok-left-in-Compare.ensures.aggregates) (rw c.get-in-Compare-2.ensures at c.in_ok-right-in-Compare.ensures.aggregates))

pub returns-in_ok-new-in-And-2-clause-expr : goal.returns-in_ok-new-in-And-2-clause-expr
returns-in_ok-new-in-And-2-clause-expr t c = rw (c.in-And.is, over_and) (operands expr.And _ _ _ _ _ _ _ _ _ _ c.in_ok-new-in-And.ensures c.in_ok-new-in-And-2.ensures
    (rw c.get-in-And.ensures at c.in_ok-left-in-And.ensures.expr) (rw c.get-in-And.ensures at c.in_ok-left-in-And.ensures.aggregates) (rw c.get-in-And-2.ensures at c.in_ok-right-in-And.ensures.expr))

pub returns-in_ok-new-in-And-2-clause-aggregates : goal.returns-in_ok-new-in-And-2-clause-aggregates
returns-in_ok-new-in-And-2-clause-aggregates t c = rw (c.in-And.is, aggregates_and) (joined _ _ _ _ _ (rw c.get-in-And.ensures at c.in_ok-left-in-And.ensures.aggregates) (rw c.get-in-And-2.ensures at c.in_ok-right-in-And.ensures.aggregates))

pub returns-in_ok-new-in-Or-2-clause-expr : goal.returns-in_ok-new-in-Or-2-clause-expr
returns-in_ok-new-in-Or-2-clause-expr t c = rw (c.in-Or.is, over_or) (operands expr.Or _ _ _ _ _ _ _ _ _ _ c.in_ok-new-in-Or.ensures c.in_ok-new-in-Or-2.ensures
    (rw c.get-in-Or.ensures at c.in_ok-left-in-Or.ensures.expr) (rw c.get-in-Or.ensures at c.in_ok-left-in-Or.ensures.aggregates) (rw c.get-in-Or-2.ensures at c.in_ok-right-in-Or.ensures.expr))

pub returns-in_ok-new-in-Or-2-clause-aggregates : goal.returns-in_ok-new-in-Or-2-clause-aggregates
returns-in_ok-new-in-Or-2-clause-aggregates t c = rw (c.in-Or.is, aggregates_or) (joined _ _ _ _ _ (rw c.get-in-Or.ensures at c.in_ok-left-in-Or.ensures.aggregates) (rw c.get-in-Or-2.ensures at c.in_ok-right-in-Or.ensures.aggregates))
