use Rattle.std.proofs.Common.{◌≡◌, ◌++◌, drop}
use Rattle.hq_block.specs.Bounds.{bounds_from, bounds_of, bounds_bytes}
use Rattle.hq_block.proofs.bounds.put_bounds.Given as goal

abbrev pub invariant-loop-place : goal.invariant-loop-place
invariant-loop-place l = l.out.items ++ bounds_bytes (bounds_from l.place (drop l.place l.kinds) l.rows) ≡ l.fn.out.items ++ bounds_bytes (bounds_of l.kinds l.rows)
