use Rattle.std.proofs.Common.{◌≡◌, replicate, None}
use Rattle.hq_snap.proofs.table_seals.empty_lanes.Given as goal

abbrev pub invariant-loop : goal.invariant-loop
invariant-loop g l = l.lanes.items ≡ replicate l.counter (replicate 16 None)
