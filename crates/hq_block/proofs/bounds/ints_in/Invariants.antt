use Rattle.std.proofs.Common.{◌≡◌, take}
use Rattle.hq_block.specs.Bounds.{range_of}
use Rattle.hq_block.specs.Extents.{extent_bounds}
use Rattle.hq_block.proofs.bounds.ints_in.Given as goal

abbrev pub invariant-loop-i : goal.invariant-loop-i
invariant-loop-i l = extent_bounds l.extent ≡ range_of l.place (take l.i l.rows)
