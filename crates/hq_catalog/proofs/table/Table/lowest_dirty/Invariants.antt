-- No lane so far has a tail.
use Rattle.std.proofs.Common.{◌≡◌, ℕ, ◌<◌, false}
use Rattle.hq_log.specs.Places.{is_dirty, passes_at}
use Rattle.hq_pool.specs.Slots.{places}
use Rattle.hq_catalog.proofs.table.Table.lowest_dirty.Given as goal

abbrev pub invariant-loop-n : goal.invariant-loop-n
invariant-loop-n g l = (m : ℕ) → m < l.n → passes_at is_dirty (places l.self.slots) m ≡ false
