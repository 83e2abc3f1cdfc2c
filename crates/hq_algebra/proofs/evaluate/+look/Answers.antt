use Rattle.std.proofs.Common.{◌∙◌, ap}
use Rattle.hq_algebra.specs.Outcome.{of_one, of_two, of_two_values}
use Rattle.hq_algebra.specs.Steps.{arith_of, compare_of, and_of, or_of, not_of, is_null_of}
use Rattle.hq_algebra.proofs.Nodes.{same_of, eval-Arith, eval-Compare, eval-And, eval-Or, eval-Not, eval-IsNull}
use Rattle.hq_algebra.proofs.evaluate.+look.Goals as goal

pub returns-in-Arith : goal.returns-in-Arith
returns-in-Arith t c = rw (c.in-Arith.is, eval-Arith) (c.arith.ensures ∙ same_of (of_two (arith_of c.in-Arith.kind)) (rw c.get.ensures at c.look.ensures) (rw c.get-in-Arith.ensures at c.look-in-Arith.ensures))

pub returns-in-Compare : goal.returns-in-Compare
returns-in-Compare t c = rw (c.in-Compare.is, eval-Compare) (c.compare.ensures ∙ same_of (of_two_values (compare_of c.in-Compare.kind)) (rw c.get-in-Compare.ensures at c.look-in-Compare.ensures) (rw c.get-in-Compare-2.ensures at c.look-in-Compare-2.ensures))

pub returns-in-And : goal.returns-in-And
returns-in-And t c = rw (c.in-And.is, eval-And) (c.both.ensures ∙ same_of (of_two_values and_of) (rw c.get-in-And.ensures at c.look-in-And.ensures) (rw c.get-in-And-2.ensures at c.look-in-And-2.ensures))

pub returns-in-Or : goal.returns-in-Or
returns-in-Or t c = rw (c.in-Or.is, eval-Or) (c.either.ensures ∙ same_of (of_two_values or_of) (rw c.get-in-Or.ensures at c.look-in-Or.ensures) (rw c.get-in-Or-2.ensures at c.look-in-Or-2.ensures))

pub returns-in-Not : goal.returns-in-Not
returns-in-Not t c = rw (c.in-Not.is, eval-Not) (c.opposite.ensures ∙ ap (of_one not_of) (rw c.get-in-Not.ensures at c.look-in-Not.ensures))

pub returns-in-IsNull : goal.returns-in-IsNull
returns-in-IsNull t c = rw (c.in-IsNull.is, eval-IsNull) (c.absent.ensures ∙ ap (of_one is_null_of) (rw c.get-in-IsNull.ensures at c.look-in-IsNull.ensures))
