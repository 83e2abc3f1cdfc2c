use Rattle.std.proofs.Common.{◌≤◌, ◌<◌, length}
use Rattle.std.specs.Option.{IfSome}
use Rattle.hq_whole.proofs.choosing.smallest.Given as goal

abbrev pub invariant-loop-i : goal.invariant-loop-i
invariant-loop-i l = IfSome l.found (λ place. (l.at ≤ place) × (place < length l.sources))
