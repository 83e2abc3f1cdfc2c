-- Of the tables below place i there is room, or they are there.
use Rattle.std.proofs.Common.{◌≡◌, ℕ, ◌<◌, length, false, IsSome}
use Rattle.hq_snap.specs.Caches.{cached, snap_at}
use Rattle.hq_snap.specs.Deltas.{room_at}
use Rattle.hq_snap.proofs.cache.rooms_for.Given as goal

abbrev pub invariant-loop-i : goal.invariant-loop-i
invariant-loop-i g l = record {
  many : length l.rooms.items ≡ l.i;
  there : (k : ℕ) → k < l.i → room_at l.rooms.items k ≡ false → IsSome (cached (snap_at l.delta.items k).table l.tables.items l.places.items);
}
