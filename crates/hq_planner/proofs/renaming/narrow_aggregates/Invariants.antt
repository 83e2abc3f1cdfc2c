use Rattle.std.proofs.Common.{◌≡◌, map, take}
use Rattle.hq_laws.specs.Turned.{renamed_aggregate}
use Rattle.hq_narrow.specs.Narrow.{place_from}
use Rattle.hq_planner.proofs.renaming.narrow_aggregates.Given as goal

abbrev pub invariant-loop-aggregate : goal.invariant-loop-aggregate
invariant-loop-aggregate l = map (renamed_aggregate (place_from l.columns l.width)) l.new ≡ take l.aggregate-index l.aggregates
