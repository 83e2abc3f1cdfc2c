use Rattle.std.proofs.Common.{◌≡◌, ℕ, ◌≤◌, length}
use Rattle.hq_link.specs.Pair.{HasSkipped}
use Rattle.hq_link.proofs.pair.UdpPairLink.next.Given as goal

abbrev pub invariant-loop-tried : goal.invariant-loop-tried
invariant-loop-tried l = record {
  skipped : HasSkipped l.fn.self.counts l._tried l.self.counts;
  room : 1224 ≤ length l.into;
}
