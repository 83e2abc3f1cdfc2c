use Rattle.std.proofs.Common.{◌≡◌, ℕ, ◌+◌, ◌-◌, length}
use Rattle.hq_exchange.specs.Lists.{bytes_at}
use Rattle.hq_exchange.proofs.lists.make_place.Given as goal

abbrev pub invariant-places : goal.invariant-places
invariant-places l = (n : ℕ) → bytes_at l.lists.items n ≡ bytes_at l.fn.lists.items n

abbrev pub decreases-places : goal.decreases-places
decreases-places l = l.fn.place + 1 - length l.lists.items
