use Rattle.std.proofs.Common.{◌≡◌, take}
use Rattle.hq_planner.specs.Marked.{marked}
use Rattle.hq_planner.proofs.part.marked_columns.Given as goal

abbrev pub invariant-loop-place : goal.invariant-loop-place
invariant-loop-place l = l.found ≡ marked (take l.place l.marks) (take l.place l.columns)
