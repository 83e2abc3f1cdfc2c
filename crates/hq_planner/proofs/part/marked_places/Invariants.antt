use Rattle.std.proofs.Common.{◌≡◌, take, length}
use Rattle.std.specs.List.{range_with_len}
use Rattle.hq_planner.specs.Marked.{marked}
use Rattle.hq_planner.proofs.part.marked_places.Given as goal

abbrev pub invariant-loop-place : goal.invariant-loop-place
invariant-loop-place l = l.places ≡ marked (take l.place l.marks) (take l.place (range_with_len 0 (length l.marks)))
