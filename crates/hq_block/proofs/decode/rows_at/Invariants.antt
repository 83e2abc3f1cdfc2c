use Rattle.std.proofs.Common.{◌≡◌, length, take}
use Rattle.hq_block.specs.Reading.{rows_at, with_front}
use Rattle.hq_block.proofs.Rows.{rows_from}
use Rattle.hq_block.proofs.decode.rows_at.Given as goal

abbrev pub invariant-loop : goal.invariant-loop
invariant-loop l = record {
  read : with_front l.rows.items (rows_from l.kinds l.width l.count l.counter l.rest) ≡ with_front l.fn.rows.items (rows_at l.kinds l.width l.count l.bytes);
  kept : take (length l.fn.rows.items) l.rows.items ≡ l.fn.rows.items;
}
