-- As many lanes as turns, and room for all.
use Rattle.std.proofs.Common.{◌≡◌, ◌≤◌, replicate, vec_len, vec_capacity}
use Rattle.hq_pool.specs.declared.slot.Slot.TheVariants.{Unborn}
use Rattle.hq_pool.proofs.pool.unborn_slots.Given as goal

abbrev pub invariant-loop : goal.invariant-loop
invariant-loop g l = record {
  items : l.slots.items ≡ replicate l.counter Unborn;
  len : vec_len l.slots ≡ l.counter;
  room : 64 ≤ vec_capacity l.slots;
}
