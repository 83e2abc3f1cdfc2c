use Rattle.std.proofs.Common.{◌≡◌, take}
use Rattle.std.specs.Prelude.{flat_map}
use Rattle.hq_bind.specs.Bound.{number_of}
use Rattle.hq_bind.proofs.query.numbers.Given as goal

abbrev pub invariant-loop-source : goal.invariant-loop-source
invariant-loop-source l = l.numbers ≡ flat_map (number_of l.defs) (take l.source-index l.sources)
