use Rattle.std.proofs.Common.{◌≡◌, take}
use Rattle.hq_laws.specs.Placed.{further}
use Rattle.hq_whole.proofs.homes.further.Given as goal

abbrev pub invariant-loop-key : goal.invariant-loop-key
invariant-loop-key l = l.further ≡ further l.width (take l.key-index l.keys)
