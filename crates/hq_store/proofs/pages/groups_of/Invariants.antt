-- The groups made and the pages that are left are all the pages.
use Rattle.std.proofs.Common.{◌≡◌, length}
use Rattle.hq_store.specs.declared.pages.TheConstants.{GROUP}
use Rattle.hq_store.specs.Pages.{joined, AreWhole}
use Rattle.hq_store.proofs.pages.groups_of.Given as goal

abbrev pub invariant-loop : goal.invariant-loop
invariant-loop l = AreWhole GROUP l.made.items × (length l.made.items ≡ l.counter) × (joined l.made.items l.rest ≡ l.pages)
