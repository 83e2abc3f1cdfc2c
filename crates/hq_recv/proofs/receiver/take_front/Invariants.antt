use Rattle.std.proofs.Common.{◌≡◌, ℕ, ◌+◌, ◌-◌, ◌*◌, ◌≤◌, ◌++◌, ◌∷◌, length, drop, Some, None, vec_len, vec_capacity}
use Rattle.std.specs.Prelude.{replicate}
use Rattle.hq_stream.specs.Piece.{Bytes}
use Rattle.hq_stream.specs.Receiving.{taken}
use Rattle.hq_recv.proofs.receiver.take_front.Given as goal

abbrev pub invariant-loop-i : goal.invariant-loop-i
invariant-loop-i l = record {
  places : l.slots.items ≡ replicate l.i None ++ drop l.i l.fn.slots.items;
  so_far : (wanted : ℕ) → taken wanted l.fn.got.items (Some (Bytes l.fn.bytes) ∷ drop 1 l.fn.slots.items) ≡ taken (wanted + l.i) l.got.items (drop l.i l.fn.slots.items);
  room : vec_len l.got + 1200 * (16 - l.i) ≤ vec_capacity l.got;
}
