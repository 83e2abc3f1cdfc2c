-- The bytes that were read do not go on as a block.
use Rattle.std.proofs.Common.{ℕ, ◌≤◌, ◌++◌, List, length, subst}
use Rattle.hq_value.specs.declared.kind.Kind.{Kind}
use Rattle.hq_lane.specs.Scans.{BeginsNoBlock}
use Rattle.hq_lane.proofs.block.read_front.Goals as goal

pub returns-clause-none : goal.returns-clause-none
returns-clause-none g c = λ none.
    subst (λ (l : List ℕ). (kinds : List Kind) (more : List ℕ) → length (l ++ more) ≤ c.args.left → BeginsNoBlock kinds (l ++ more)) c.deref.ensures.value (c.block_size.ensures.none none)
