use Rattle.std.proofs.Common.{◌≡◌, map, take}
use Rattle.hq_bind.specs.Targets.{row_of}
use Rattle.hq_bind.proofs.targets.rows.Given as goal

abbrev pub invariant-loop-tuple : goal.invariant-loop-tuple
invariant-loop-tuple l = l.rows.items ≡ map (row_of l.places) (take l.tuple-index l.tuples)
