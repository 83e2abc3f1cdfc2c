use Rattle.std.proofs.Common.{◌≡◌, drop}
use Rattle.hq_laws.specs.Placed.{lie_by}
use Rattle.hq_whole.proofs.checking.lie_by.Given as goal

abbrev pub invariant-loop-home : goal.invariant-loop-home
invariant-loop-home l = lie_by l.keys l.homes ≡ lie_by l.keys (drop l.home-index l.homes)
