use Rattle.std.proofs.Common.{◌≡◌, ap, ◌∙◌}
use Rattle.hq_expr.specs.Uses.{either, aggregated}
use Rattle.hq_expr.specs.declared.uses.Uses.{Uses}
use Rattle.hq_expr.proofs.AtNodes.{uses-Aggregate, uses-Arith, uses-Compare, uses-And, uses-Or, uses-Not, uses-IsNull}
use Rattle.hq_expr.proofs.uses.+uses_of.Goals as goal

two : {a b c d : Uses} → a ≡ c → b ≡ d → either a b ≡ either c d
two e f = λ i. either (e i) (f i)

pub returns-in-Aggregate : goal.returns-in-Aggregate
returns-in-Aggregate t c = rw (c.in-Aggregate.is, uses-Aggregate) (c.aggregated.ensures ∙ ap (aggregated c.in-Aggregate.kind) (rw c.get.ensures at c.uses_of.ensures))

pub returns-in-Arith : goal.returns-in-Arith
returns-in-Arith t c = rw (c.in-Arith.is, uses-Arith) (c.either.ensures ∙ two (rw c.get-in-Arith.ensures at c.uses_of-in-Arith.ensures) (rw c.get-in-Arith-2.ensures at c.uses_of-in-Arith-2.ensures))

pub returns-in-Compare : goal.returns-in-Compare
returns-in-Compare t c = rw (c.in-Compare.is, uses-Compare) (c.either-in-Compare.ensures ∙ two (rw c.get-in-Compare.ensures at c.uses_of-in-Compare.ensures) (rw c.get-in-Compare-2.ensures at c.uses_of-in-Compare-2.ensures))

pub returns-in-And : goal.returns-in-And
returns-in-And t c = rw (c.in-And.is, uses-And) (c.either-in-And.ensures ∙ two (rw c.get-in-And.ensures at c.uses_of-in-And.ensures) (rw c.get-in-And-2.ensures at c.uses_of-in-And-2.ensures))

pub returns-in-Or : goal.returns-in-Or
returns-in-Or t c = rw (c.in-Or.is, uses-Or) (c.either-in-Or.ensures ∙ two (rw c.get-in-Or.ensures at c.uses_of-in-Or.ensures) (rw c.get-in-Or-2.ensures at c.uses_of-in-Or-2.ensures))

pub returns-in-Not : goal.returns-in-Not
returns-in-Not t c = rw (c.in-Not.is, uses-Not) (rw c.get-in-Not.ensures at c.uses_of-in-Not.ensures)

pub returns-in-IsNull : goal.returns-in-IsNull
returns-in-IsNull t c = rw (c.in-IsNull.is, uses-IsNull) (rw c.get-in-IsNull.ensures at c.uses_of-in-IsNull.ensures)
