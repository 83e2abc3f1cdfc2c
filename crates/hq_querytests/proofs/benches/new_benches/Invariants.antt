use Rattle.std.proofs.Common.{◌≡◌, ℕ, All, [], IfOk, ◌+◌, ◌-◌, ◌*◌, ◌<◌, ◌≤◌, length}
use Rattle.hq_querytests.specs.Benches.{HasNewLink, AreReady}
use Rattle.hq_querytests.proofs.benches.new_benches.Given as goal

abbrev pub invariant-loop-host : goal.invariant-loop-host
invariant-loop-host g l = All HasNewLink l.benches.items
