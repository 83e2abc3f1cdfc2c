use Rattle.std.proofs.Common.{◌≡◌, ◌+◌, ◌*◌, ◌≤◌, length, drop}
use Rattle.hq_block.specs.Bounds.{bounds_from, bounds_of, bounds_bytes}
use Rattle.hq_block.proofs.bounds.bounds_length.Given as goal

abbrev pub invariant-loop-place : goal.invariant-loop-place
invariant-loop-place l = record {
  so_far : l.total + length (bounds_bytes (bounds_from l.place (drop l.place l.kinds) l.rows)) ≡ length (bounds_bytes (bounds_of l.kinds l.rows));
  short : l.total ≤ 17 * l.place;
}
