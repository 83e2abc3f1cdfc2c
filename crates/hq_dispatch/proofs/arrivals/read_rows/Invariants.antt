-- The rows so far and the bytes behind them are what there was.
use Rattle.std.proofs.Common.{◌≡◌, ◌-◌, ◌≤◌, ◌++◌, length, drop}
use Rattle.std.specs.List.{AllByRecursion}
use Rattle.hq_block.specs.Row.{IsStorable}
use Rattle.hq_motion.specs.Bytes.{rows_bytes}
use Rattle.hq_dispatch.proofs.arrivals.read_rows.Given as goal

abbrev pub invariant-rows : goal.invariant-rows
invariant-rows l = record {
  within : l.at ≤ length l.bytes;
  storable : AllByRecursion (IsStorable l.kinds) l.rows.items;
  same : rows_bytes l.rows.items ++ drop l.at l.bytes ≡ rows_bytes l.initial.rows.items ++ l.bytes;
}

abbrev pub decreases-rows : goal.decreases-rows
decreases-rows l = length l.bytes - l.at
