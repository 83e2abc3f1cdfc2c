-- The bytes of the runs so far.
use Rattle.std.proofs.Common.{◌≡◌, take}
use Rattle.hq_store.specs.Pages.{flat}
use Rattle.hq_store.proofs.tail.gather.Given as goal

abbrev pub invariant-loop-run : goal.invariant-loop-run
invariant-loop-run l = l.page.items ≡ flat (take l.run-index l.runs)
