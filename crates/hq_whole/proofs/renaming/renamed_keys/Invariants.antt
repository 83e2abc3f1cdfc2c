use Rattle.std.proofs.Common.{◌≡◌, map, take}
use Rattle.hq_whole.specs.Places.{place_of}
use Rattle.hq_whole.proofs.renaming.renamed_keys.Given as goal

abbrev pub invariant-loop-key : goal.invariant-loop-key
invariant-loop-key l = l.new ≡ map (place_of l.to) (take l.key-index l.keys)
