use Rattle.std.proofs.Common.{◌≡◌, map, take}
use Rattle.hq_laws.specs.Turned.{renamed}
use Rattle.hq_narrow.specs.Narrow.{place_from}
use Rattle.hq_planner.proofs.renaming.narrow_exprs.Given as goal

abbrev pub invariant-loop-e : goal.invariant-loop-e
invariant-loop-e l = map (renamed (place_from l.columns l.width)) l.new ≡ take l.e-index l.exprs
