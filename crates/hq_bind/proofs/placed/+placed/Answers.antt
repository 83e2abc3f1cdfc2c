use Rattle.std.proofs.Common.{◌≡◌, ◌∙◌, ap}
use Rattle.hq_algebra.specs.declared.expr.Expr.{Expr}
use Rattle.hq_algebra.specs.declared.expr.Expr.TheVariants as expr
use Rattle.hq_bind.proofs.AtNodes.{placed_arith, placed_compare, placed_and, placed_or}
use Rattle.hq_bind.proofs.placed.+placed.Goals as goal

same_two : (f : Expr → Expr → Expr) {a b x y : Expr} → a ≡ x → b ≡ y → f a b ≡ f x y
same_two f p q = λ i. f (p i) (q i)

pub returns-in_ok-new-in-Arith-2 : goal.returns-in_ok-new-in-Arith-2
returns-in_ok-new-in-Arith-2 t c = rw (c.in-Arith.is, placed_arith) (same_two (expr.Arith c.in-Arith.kind) (c.in_ok-new-in-Arith.ensures ∙ rw c.get.ensures at c.in_ok-placed-in-Arith.ensures) (c.in_ok-new-in-Arith-2.ensures ∙ rw c.get-in-Arith.ensures at c.in_ok-placed-in-Arith-2.ensures))

pub returns-in_ok-new-in-Compare-2 : goal.returns-in_ok-new-in-Compare-2
returns-in_ok-new-in-Compare-2 t c = rw (c.in-Compare.is, placed_compare) (same_two (expr.Compare c.in-Compare.kind) (c.in_ok-new-in-Compare.ensures ∙ rw c.get-in-Compare.ensures at c.in_ok-placed-in-Compare.ensures) (c.in_ok-new-in-Compare-2.ensures ∙ rw c.get-in-Compare-2.ensures at c.in_ok-placed-in-Compare-2.ensures))

pub returns-in_ok-new-in-And-2 : goal.returns-in_ok-new-in-And-2
returns-in_ok-new-in-And-2 t c = rw (c.in-And.is, placed_and) (same_two expr.And (c.in_ok-new-in-And.ensures ∙ rw c.get-in-And.ensures at c.in_ok-placed-in-And.ensures) (c.in_ok-new-in-And-2.ensures ∙ rw c.get-in-And-2.ensures at c.in_ok-placed-in-And-2.ensures))

pub returns-in_ok-new-in-Or-2 : goal.returns-in_ok-new-in-Or-2
returns-in_ok-new-in-Or-2 t c = rw (c.in-Or.is, placed_or) (same_two expr.Or (c.in_ok-new-in-Or.ensures ∙ rw c.get-in-Or.ensures at c.in_ok-placed-in-Or.ensures) (c.in_ok-new-in-Or-2.ensures ∙ rw c.get-in-Or-2.ensures at c.in_ok-placed-in-Or-2.ensures))
