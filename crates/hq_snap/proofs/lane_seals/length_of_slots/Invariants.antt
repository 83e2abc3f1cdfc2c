use Rattle.std.proofs.Common.{◌≡◌, ◌≤◌, ◌*◌, ◌^◌, take}
use Rattle.hq_snap.specs.Snaps.{seals_length}
use Rattle.hq_snap.proofs.lane_seals.length_of_slots.Given as goal

abbrev pub invariant-loop-slot : goal.invariant-loop-slot
invariant-loop-slot g l = record {
  sum : l.total ≡ seals_length (take l.slot-index l.slots);
  fits : l.total ≤ l.slot-index * 2 ^ 64;
}
