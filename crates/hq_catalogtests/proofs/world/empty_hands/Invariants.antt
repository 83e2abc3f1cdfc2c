-- No hand so far has a lane.
use Rattle.std.proofs.Common.{◌≡◌, ◌≤◌, vec_len, vec_capacity}
use Rattle.hq_catalogtests.specs.Turns.{AreEmpty}
use Rattle.hq_catalogtests.proofs.world.empty_hands.Given as goal

abbrev pub invariant-loop : goal.invariant-loop
invariant-loop l = record {
  len : vec_len l.hands ≡ l.counter;
  room : l.count ≤ vec_capacity l.hands;
  none : AreEmpty l.hands.items;
}
