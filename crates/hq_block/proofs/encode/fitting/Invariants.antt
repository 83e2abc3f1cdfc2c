use Rattle.std.proofs.Common.{◌≡◌, ◌≤◌, length, take}
use Rattle.hq_block.specs.Block.{body_bytes, block_length}
use Rattle.hq_block.proofs.encode.fitting.Given as goal

abbrev pub invariant-loop-i : goal.invariant-loop-i
invariant-loop-i l = record {
  so_far : l.body ≡ length (body_bytes (take l.i l.rows));
  room : block_length l.kinds (take l.i l.rows) ≤ 65536;
}
