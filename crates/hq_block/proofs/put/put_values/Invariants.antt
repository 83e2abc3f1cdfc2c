use Rattle.std.proofs.Common.{◌≡◌, ◌++◌, length, take}
use Rattle.std.specs.Prelude.{flat_map}
use Rattle.std.specs.List.{AllByRecursion}
use Rattle.hq_block.specs.Row.{value_bytes, IsInRange}
use Rattle.hq_block.proofs.put.put_values.Given as goal

abbrev pub invariant-loop-value : goal.invariant-loop-value
invariant-loop-value l = record {
  so_far : l.out.items ≡ l.fn.out.items ++ flat_map value_bytes (take l.value-index l.row);
  in_range : AllByRecursion IsInRange (take l.value-index l.row);
  kept : take (length l.fn.out.items) l.out.items ≡ l.fn.out.items;
}
