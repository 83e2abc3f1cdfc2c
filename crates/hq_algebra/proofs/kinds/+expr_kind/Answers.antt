use Rattle.std.proofs.Common.{◌∙◌, ap}
use Rattle.hq_value.specs.declared.kind.Kind.TheVariants as kind
use Rattle.hq_algebra.specs.Kinds.{kind_if, is_of, has_kind}
use Rattle.hq_algebra.proofs.Typed.{asked, alike, same_asked, expr_kind-Arith, expr_kind-Compare, expr_kind-And, expr_kind-Or, expr_kind-Not, expr_kind-IsNull}
use Rattle.hq_algebra.proofs.kinds.+expr_kind.Goals as goal

pub returns-in-Arith : goal.returns-in-Arith
returns-in-Arith t c = rw (c.in-Arith.is, expr_kind-Arith) (c.of_two.ensures ∙ same_asked (asked kind.Int) (rw c.get.ensures at c.expr_kind.ensures) (rw c.get-in-Arith.ensures at c.expr_kind-in-Arith.ensures))

pub returns-in-Compare : goal.returns-in-Compare
returns-in-Compare t c = rw (c.in-Compare.is, expr_kind-Compare) (c.of_compared.ensures ∙ same_asked alike (rw c.get-in-Compare.ensures at c.expr_kind-in-Compare.ensures) (rw c.get-in-Compare-2.ensures at c.expr_kind-in-Compare-2.ensures))

pub returns-in-And : goal.returns-in-And
returns-in-And t c = rw (c.in-And.is, expr_kind-And) (c.of_two-in-And.ensures ∙ same_asked (asked kind.Bool) (rw c.get-in-And.ensures at c.expr_kind-in-And.ensures) (rw c.get-in-And-2.ensures at c.expr_kind-in-And-2.ensures))

pub returns-in-Or : goal.returns-in-Or
returns-in-Or t c = rw (c.in-Or.is, expr_kind-Or) (c.of_two-in-Or.ensures ∙ same_asked (asked kind.Bool) (rw c.get-in-Or.ensures at c.expr_kind-in-Or.ensures) (rw c.get-in-Or-2.ensures at c.expr_kind-in-Or-2.ensures))

pub returns-in-Not : goal.returns-in-Not
returns-in-Not t c = rw (c.in-Not.is, expr_kind-Not) (c.of_one.ensures ∙ ap (λ k. kind_if (is_of kind.Bool k) kind.Bool) (rw c.get-in-Not.ensures at c.expr_kind-in-Not.ensures))

pub returns-in-IsNull : goal.returns-in-IsNull
returns-in-IsNull t c = rw (c.in-IsNull.is, expr_kind-IsNull) (c.of_tested.ensures ∙ ap (λ k. kind_if (has_kind k) kind.Bool) (rw c.get-in-IsNull.ensures at c.expr_kind-in-IsNull.ensures))
