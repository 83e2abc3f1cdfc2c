use Rattle.std.proofs.Common.{◌≡◌, take}
use Rattle.std.specs.List.{AllByRecursion}
use Rattle.hq_block.specs.Row.{IsStorable}
use Rattle.hq_motion.specs.Bytes.{rows_bytes}
use Rattle.hq_motion.proofs.bytes.rows_to_bytes.Given as goal

abbrev pub invariant-loop-row : goal.invariant-loop-row
invariant-loop-row l = record {
  written : l.bytes.items ≡ rows_bytes (take l.row-index l.rows);
  storable : AllByRecursion (IsStorable l.kinds) (take l.row-index l.rows);
}
