-- The rows of the senders so far.
use Rattle.std.proofs.Common.{◌≡◌, ◌+◌, ◌<◌, ℕ, true, false, List, length, drop, filter, flat_map, get_or}
use Rattle.std.specs.List.{AllByRecursion, range_with_len}
use Rattle.hq_value.specs.declared.value.Value.{Value}
use Rattle.hq_block.specs.Row.{IsStorable}
use Rattle.hq_motion.specs.Bytes.{AreRows}
use Rattle.hq_dispatch.specs.Arrivals.{came_at, AreStorable}
use Rattle.hq_dispatch.proofs.arrivals.join.Given as goal

abbrev pub invariant-loop-arrival : goal.invariant-loop-arrival
invariant-loop-arrival l = record {
  rows : (given : ℕ → List (List Value)) → ((n : ℕ) → n < 16 → get_or l.sends n false ≡ true → AreRows l.kinds (given n) (came_at l.fn.from.items n)) → l.all.items ≡ flat_map given (filter (λ n. get_or l.sends n false) (range_with_len 0 l.node));
  storable : AllByRecursion (IsStorable l.kinds) l.all.items;
  rest : l.arrival-iterator.rest.items ≡ drop l.node l.fn.from.items;
  rest_storable : AreStorable l.kinds l.arrival-iterator.rest.items;
  count : l.node + length l.arrival-iterator.rest.items ≡ 16;
}
