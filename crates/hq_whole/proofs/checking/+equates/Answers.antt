use Rattle.std.proofs.Common.{◌∙◌, ap, sym, ◌&&◌, ◌||◌}
use Rattle.hq_laws.specs.Equated.{equates}
use Rattle.hq_whole.specs.Choices.{are_places}
use Rattle.hq_whole.proofs.Nodes.{equates-Compare, equates-And}
use Rattle.hq_whole.proofs.checking.+equates.Goals as goal

pub returns-then-is_equal : goal.returns-then-is_equal
returns-then-is_equal t c = rw (c.in-Compare.is, equates-Compare) ((rw (c.get.ensures, c.get-then-is_equal.ensures) at c.are_places.ensures) ∙ sym (ap (λ b. b && are_places c.args.i c.args.j c.in-Compare.left c.in-Compare.right) (sym c.is_equal.ensures ∙ c.if-is_equal.true)))

pub returns-then-equates : goal.returns-then-equates
returns-then-equates t c = rw (c.in-And.is, equates-And) (c.if-equates.true ∙ sym (ap (λ b. b || equates c.args.i c.args.j c.in-And.right) (sym (rw c.get-in-And.ensures at c.equates.ensures) ∙ c.if-equates.true)))

pub returns-else-equates : goal.returns-else-equates
returns-else-equates t c = rw (c.in-And.is, equates-And) ((rw c.get-else-equates.ensures at c.equates-else-equates.ensures) ∙ sym (ap (λ b. b || equates c.args.i c.args.j c.in-And.right) (sym (rw c.get-in-And.ensures at c.equates.ensures) ∙ c.if-equates.false)))
