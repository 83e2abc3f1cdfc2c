-- The pages made and the bytes that are left are all the bytes.
use Rattle.std.proofs.Common.{◌≡◌, length}
use Rattle.hq_store.specs.declared.pages.TheConstants.{PAGE}
use Rattle.hq_store.specs.Pages.{joined, AreWhole}
use Rattle.hq_store.proofs.pages.add_pages.Given as goal

abbrev pub invariant-loop-rest : goal.invariant-loop-rest
invariant-loop-rest l = AreWhole PAGE l.made.items × (joined l.made.items l.rest ≡ joined l.initial.made.items l.initial.rest)

abbrev pub decreases-loop-rest : goal.decreases-loop-rest
decreases-loop-rest l = length l.rest
