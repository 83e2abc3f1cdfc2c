use Rattle.std.proofs.Common.{List, ℕ, ap, ◌∙◌, flat_map}
use Rattle.hq_algebra.specs.Operators.{items_kinds}
use Rattle.hq_whole.proofs.sent.listed_kinds.Goals as goal
use Rattle.hq_whole.specs.Tables.{kinds_by}

pub returns : goal.returns
returns c = c.in_ok-found.ensures ∙ (λ i. items_kinds ((c.as_slice-2.ensures ∙ c.in_ok-product.ensures ∙ ap (λ (ss : List ℕ). flat_map (kinds_by c.args.defs.now) ss) c.as_slice.ensures) i) (c.as_slice-3.ensures i))
