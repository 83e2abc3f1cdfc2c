use Rattle.std.proofs.Common.{◌||◌, ◌∙◌, ap, sym}
use Rattle.hq_algebra.specs.Shape.{has_column}
use Rattle.hq_whole.proofs.Nodes.{column-Arith, column-Compare, column-And, column-Or}
use Rattle.hq_whole.proofs.source.+has_column.Goals as goal

pub returns-in-Arith : goal.returns-in-Arith
returns-in-Arith t c =
    c.either.ensures ∙ (λ i. (c.has_column.ensures ∙ ap has_column c.get.ensures) i || (c.has_column-in-Arith.ensures ∙ ap has_column c.get-in-Arith.ensures) i)
    ∙ sym (column-Arith c.in-Arith.kind c.in-Arith.left c.in-Arith.right) ∙ ap has_column (sym c.in-Arith.is)

pub returns-in-Compare : goal.returns-in-Compare
returns-in-Compare t c =
    c.either-in-Compare.ensures ∙ (λ i. (c.has_column-in-Compare.ensures ∙ ap has_column c.get-in-Compare.ensures) i || (c.has_column-in-Compare-2.ensures ∙ ap has_column c.get-in-Compare-2.ensures) i)
    ∙ sym (column-Compare c.in-Compare.kind c.in-Compare.left c.in-Compare.right) ∙ ap has_column (sym c.in-Compare.is)

pub returns-in-And : goal.returns-in-And
returns-in-And t c =
    c.either-in-And.ensures ∙ (λ i. (c.has_column-in-And.ensures ∙ ap has_column c.get-in-And.ensures) i || (c.has_column-in-And-2.ensures ∙ ap has_column c.get-in-And-2.ensures) i)
    ∙ sym (column-And c.in-And.left c.in-And.right) ∙ ap has_column (sym c.in-And.is)

pub returns-in-Or : goal.returns-in-Or
returns-in-Or t c =
    c.either-in-Or.ensures ∙ (λ i. (c.has_column-in-Or.ensures ∙ ap has_column c.get-in-Or.ensures) i || (c.has_column-in-Or-2.ensures ∙ ap has_column c.get-in-Or-2.ensures) i)
    ∙ sym (column-Or c.in-Or.left c.in-Or.right) ∙ ap has_column (sym c.in-Or.is)
