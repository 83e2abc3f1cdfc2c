use Rattle.std.proofs.Common.{◌≡◌, ◌≤◌, ◌*◌, length, take}
use Rattle.hq_block.specs.Block.{body_bytes}
use Rattle.hq_block.proofs.encode.body_length.Given as goal

abbrev pub invariant-loop-i : goal.invariant-loop-i
invariant-loop-i l = record {
  so_far : l.size ≡ length (body_bytes (take l.i l.rows));
  room : l.size ≤ l.room;
  first : l.size ≤ 64136 * l.i;
}
