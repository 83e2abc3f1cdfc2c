use Rattle.std.proofs.Common.{◌≡◌, take}
use Rattle.hq_bind.specs.Targets.{row_of}
use Rattle.hq_bind.proofs.targets.row_over.Given as goal

abbrev pub invariant-loop-place : goal.invariant-loop-place
invariant-loop-place l = l.row ≡ row_of (take l.place-index l.places) l.literals
