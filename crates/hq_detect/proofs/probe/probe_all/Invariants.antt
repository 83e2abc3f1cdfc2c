use Rattle.std.proofs.Common.{◌≡◌, ◌^◌, ◌≤◌, length}
use Rattle.hq_detect.proofs.Probing.{Front}
use Rattle.hq_detect.proofs.probe.probe_all.Given as goal

abbrev pub invariant-loop-node : goal.invariant-loop-node
invariant-loop-node g l = record {
  front : Front g.H.Host.checks g.H.Host.faults g.H.Host.sound l.fn.benches l.benches l.node l.found;
  weight : l.weight ≡ 2 ^ l.node;
}
