use Rattle.std.proofs.Common.{◌≡◌, drop}
use Rattle.hq_block.specs.Row.{null_flags}
use Rattle.hq_block.proofs.nulls.null_byte.Given as goal

abbrev pub invariant-loop-i : goal.invariant-loop-i
invariant-loop-i l = l.flags ≡ null_flags (drop l.i l.group)
