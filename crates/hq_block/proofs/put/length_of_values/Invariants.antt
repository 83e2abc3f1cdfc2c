use Rattle.std.proofs.Common.{◌≡◌, ◌≤◌, ◌+◌, ◌*◌, length, take}
use Rattle.std.specs.Prelude.{flat_map}
use Rattle.hq_block.specs.Row.{bitmap_length, value_bytes}
use Rattle.hq_block.proofs.put.length_of_values.Given as goal

abbrev pub invariant-loop-value : goal.invariant-loop-value
invariant-loop-value l = record {
  so_far : l.total ≡ bitmap_length (length l.row) + length (flat_map value_bytes (take l.value-index l.row));
  short : l.total ≤ 8 + 1002 * l.value-index;
}
