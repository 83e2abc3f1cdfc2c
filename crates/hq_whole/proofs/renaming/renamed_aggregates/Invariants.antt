use Rattle.std.proofs.Common.{◌≡◌, map, take}
use Rattle.hq_laws.specs.Turned.{renamed_aggregate}
use Rattle.hq_whole.specs.Places.{place_of}
use Rattle.hq_whole.proofs.renaming.renamed_aggregates.Given as goal

abbrev pub invariant-loop-aggregate : goal.invariant-loop-aggregate
invariant-loop-aggregate l = l.new ≡ map (renamed_aggregate (place_of l.to)) (take l.aggregate-index l.aggregates)
