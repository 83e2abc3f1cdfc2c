use Rattle.std.proofs.Common.{◌≡◌, ◌≤◌, ◌++◌, ◌-◌, length, replicate}
use Rattle.hq_value.specs.declared.value.Value.TheVariants as variant
use Rattle.hq_block.proofs.read.pad.Given as goal

abbrev pub invariant-loop : goal.invariant-loop
invariant-loop l = record {
  padded : l.row ≡ l.fn.row ++ replicate (l.counter - length l.fn.row) variant.Null;
  within : l.counter - length l.fn.row ≤ l.width - length l.fn.row;
}
