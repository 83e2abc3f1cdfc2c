use Rattle.std.proofs.Common.{◌≡◌, take}
use Rattle.hq_block.specs.Bounds.{range_of}
use Rattle.hq_block.proofs.bounds.range_of_any.Given as goal

abbrev pub invariant-loop-i : goal.invariant-loop-i
invariant-loop-i l = l.bounds ≡ range_of l.place (take l.i l.rows)
