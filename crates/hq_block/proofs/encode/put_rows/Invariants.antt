use Rattle.std.proofs.Common.{◌≡◌, ◌++◌, take}
use Rattle.std.specs.List.{AllByRecursion}
use Rattle.hq_block.specs.Row.{IsStorable}
use Rattle.hq_block.specs.Block.{body_bytes}
use Rattle.hq_block.proofs.encode.put_rows.Given as goal

abbrev pub invariant-loop-i : goal.invariant-loop-i
invariant-loop-i l = record {
  so_far : l.out.items ≡ l.fn.out.items ++ body_bytes (take l.i l.rows);
  storable : AllByRecursion (IsStorable l.kinds) (take l.i l.rows);
}
