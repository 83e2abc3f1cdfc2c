use Rattle.std.proofs.Common.{◌≡◌, ◌++◌, length, take}
use Rattle.hq_block.specs.Row.{null_bitmap}
use Rattle.hq_block.proofs.nulls.put_nulls.Given as goal

abbrev pub invariant-loop-rest : goal.invariant-loop-rest
invariant-loop-rest l = record {
  so_far : l.out.items ++ null_bitmap l.rest ≡ l.fn.out.items ++ null_bitmap l.row;
  kept : take (length l.fn.out.items) l.out.items ≡ l.fn.out.items;
}

abbrev pub decreases-loop-rest : goal.decreases-loop-rest
decreases-loop-rest l = length l.rest
