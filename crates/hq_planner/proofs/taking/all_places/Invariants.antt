use Rattle.std.proofs.Common.{◌≡◌, ◌++◌, drop}
use Rattle.hq_laws.specs.Placed.{further}
use Rattle.hq_narrow.specs.Narrow.{places}
use Rattle.hq_whole.specs.Tables.{kinds_by}
use Rattle.hq_planner.proofs.taking.all_places.Given as goal

abbrev pub invariant-loop-source : goal.invariant-loop-source
invariant-loop-source l = l.all ++ further l.width (places (kinds_by l.defs) (drop l.source-index l.taken)) ≡ places (kinds_by l.defs) l.taken
