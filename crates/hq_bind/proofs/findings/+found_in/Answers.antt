use Rattle.std.proofs.Common.{◌≡◌, ap, ◌∙◌}
use Rattle.hq_value.specs.declared.kind.Kind.TheVariants as kind
use Rattle.hq_bind.specs.declared.findings.Findings.{Findings}
use Rattle.hq_bind.specs.Findings.{of_aggregate, of_two, of_compared}
use Rattle.hq_bind.proofs.AtNodes.{findings_aggregate, findings_arith, findings_compare, findings_and, findings_or}
use Rattle.hq_bind.proofs.findings.+found_in.Goals as goal

two : (f : Findings → Findings → Findings) {a b x y : Findings} → a ≡ x → b ≡ y → f a b ≡ f x y
two f p q = λ i. f (p i) (q i)

pub returns-in-Aggregate : goal.returns-in-Aggregate
returns-in-Aggregate t c = rw (c.in-Aggregate.is, findings_aggregate) (c.of_aggregate-in-Aggregate.ensures ∙ ap (of_aggregate c.in-Aggregate.kind) (rw c.get.ensures at c.found_in.ensures))

pub returns-in-Arith : goal.returns-in-Arith
returns-in-Arith t c = rw (c.in-Arith.is, findings_arith) (c.of_two.ensures ∙ two (of_two kind.Int) (rw c.get-in-Arith.ensures at c.found_in-in-Arith.ensures) (rw c.get-in-Arith-2.ensures at c.found_in-in-Arith-2.ensures))

pub returns-in-Compare : goal.returns-in-Compare
returns-in-Compare t c = rw (c.in-Compare.is, findings_compare) (c.of_compared.ensures ∙ two of_compared (rw c.get-in-Compare.ensures at c.found_in-in-Compare.ensures) (rw c.get-in-Compare-2.ensures at c.found_in-in-Compare-2.ensures))

pub returns-in-And : goal.returns-in-And
returns-in-And t c = rw (c.in-And.is, findings_and) (c.of_two-in-And.ensures ∙ two (of_two kind.Bool) (rw c.get-in-And.ensures at c.found_in-in-And.ensures) (rw c.get-in-And-2.ensures at c.found_in-in-And-2.ensures))

pub returns-in-Or : goal.returns-in-Or
returns-in-Or t c = rw (c.in-Or.is, findings_or) (c.of_two-in-Or.ensures ∙ two (of_two kind.Bool) (rw c.get-in-Or.ensures at c.found_in-in-Or.ensures) (rw c.get-in-Or-2.ensures at c.found_in-in-Or-2.ensures))
