use Rattle.std.proofs.Common.{◌≡◌, map, take}
use Rattle.hq_laws.specs.Turned.{renamed}
use Rattle.hq_whole.specs.Places.{place_of}
use Rattle.hq_whole.proofs.renaming.renamed_exprs.Given as goal

abbrev pub invariant-loop-e : goal.invariant-loop-e
invariant-loop-e l = l.new ≡ map (renamed (place_of l.to)) (take l.e-index l.exprs)
