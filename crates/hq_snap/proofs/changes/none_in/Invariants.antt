use Rattle.std.proofs.Common.{◌≡◌, replicate}
use Rattle.hq_snap.proofs.changes.none_in.Given as goal

abbrev pub invariant-loop : goal.invariant-loop
invariant-loop l = l.lanes.items ≡ replicate l.counter (replicate 16 0)
