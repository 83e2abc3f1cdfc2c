-- So many nodes, of which nothing came.
use Rattle.std.proofs.Common.{◌≡◌, ℕ, [], length}
use Rattle.hq_dispatch.specs.Arrivals.{came_at, AreStorable}
use Rattle.hq_dispatch.proofs.arrivals.nothing.Given as goal

abbrev pub invariant-loop-place : goal.invariant-loop-place
invariant-loop-place l = record {
  count : length l.from.items ≡ l._place;
  none : (n : ℕ) → came_at l.from.items n ≡ [];
  storable : (kinds : _) → AreStorable kinds l.from.items;
}
