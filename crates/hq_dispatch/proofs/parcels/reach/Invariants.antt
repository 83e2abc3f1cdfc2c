-- No byte changes, and the places left become fewer.
use Rattle.std.proofs.Common.{◌≡◌, ◌+◌, ◌-◌, ℕ, vec_len}
use Rattle.hq_dispatch.specs.Parcels.{bytes_at}
use Rattle.hq_dispatch.proofs.parcels.reach.Given as goal

abbrev pub invariant-lists : goal.invariant-lists
invariant-lists l = (n : ℕ) → bytes_at l.lists.items n ≡ bytes_at l.initial.lists.items n

abbrev pub decreases-lists : goal.decreases-lists
decreases-lists l = l.place + 1 - vec_len l.lists
