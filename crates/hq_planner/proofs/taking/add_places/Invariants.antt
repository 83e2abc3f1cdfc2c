use Rattle.std.proofs.Common.{◌≡◌, ◌++◌, take}
use Rattle.hq_laws.specs.Placed.{further}
use Rattle.hq_planner.proofs.taking.add_places.Given as goal

abbrev pub invariant-loop-column : goal.invariant-loop-column
invariant-loop-column l = l.all ≡ l.fn.all ++ further l.width (take l.column-index l.columns)
