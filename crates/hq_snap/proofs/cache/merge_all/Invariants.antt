-- The tables that are gone from the list are merged.
use Rattle.std.proofs.Common.{◌≡◌, ℕ, ◌<◌, ◌≤◌, ◌+◌, length, take, vec_len, vec_capacity, false, IsSome}
use Rattle.hq_snap.specs.Caches.{cached, snap_at}
use Rattle.hq_snap.specs.Deltas.{room_at}
use Rattle.hq_snap.proofs.Cached.{IsMergedBack}
use Rattle.hq_snap.proofs.cache.merge_all.Given as goal

abbrev pub invariant-loop-newest : goal.invariant-loop-newest
invariant-loop-newest g l = record {
  same : length l.places.items ≡ length l.tables.items;
  below : vec_len l.delta ≤ vec_len l.fn.delta;
  left : l.delta.items ≡ take (vec_len l.delta) l.fn.delta.items;
  room : vec_len l.tables + vec_len l.delta ≤ vec_capacity l.tables;
  more_room : vec_len l.places + vec_len l.delta ≤ vec_capacity l.places;
  many_rooms : vec_len l.rooms ≡ vec_len l.delta;
  rooms_left : l.rooms.items ≡ take (vec_len l.rooms) l.fn.rooms.items;
  there : (i : ℕ) → i < vec_len l.delta → room_at l.fn.rooms.items i ≡ false → IsSome (cached (snap_at l.fn.delta.items i).table l.tables.items l.places.items);
  merged : IsMergedBack l.at l.fn.delta.items (record { tables = l.initial.tables.items; places = l.initial.places.items }) (record { tables = l.tables.items; places = l.places.items }) (vec_len l.delta);
}

abbrev pub decreases-loop-newest : goal.decreases-loop-newest
decreases-loop-newest g l = vec_len l.delta
