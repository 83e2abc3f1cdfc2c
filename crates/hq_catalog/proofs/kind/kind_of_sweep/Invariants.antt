-- No table so far has a lane with a tail.
use Rattle.std.proofs.Common.{◌≡◌, ℕ, ◌<◌, false}
use Rattle.std.specs.List.{list_any}
use Rattle.hq_log.specs.Places.{is_dirty}
use Rattle.hq_catalog.specs.State.{places_in}
use Rattle.hq_catalog.proofs.kind.kind_of_sweep.Given as goal

abbrev pub invariant-loop-t : goal.invariant-loop-t
invariant-loop-t g l = (u : ℕ) → u < l.t → list_any is_dirty (places_in l.tables.items u) ≡ false
