-- No row so far has a value there.
use Rattle.std.proofs.Common.{◌≡◌, false, take}
use Rattle.hq_block.specs.Bounds.{has_value}
use Rattle.hq_block.proofs.bounds.has_value.Given as goal

abbrev pub invariant-loop-i : goal.invariant-loop-i
invariant-loop-i l = has_value l.place (take l.i l.rows) ≡ false
