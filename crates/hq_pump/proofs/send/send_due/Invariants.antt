use Rattle.std.proofs.Common.{◌≡◌, ℕ, ◌+◌, ◌≤◌, length, None}
use Rattle.hq_pump.specs.Exchange.{Exchange, Run, is_done}
use Rattle.hq_pump.specs.Pumping.{StandsAt, moved, stream_left, link_left}
use Rattle.hq_pump.proofs.send.send_due.Given as goal

abbrev pub invariant-due : goal.invariant-due
invariant-due g l = record {
  runs : (s : Exchange) → (i : ℕ) → StandsAt s i l.fn.lane (g.L.Link.state l.fn.link) → Run s (moved s i l.lane (g.L.Link.state l.link) None);
  done : is_done l.lane ≡ is_done l.fn.lane;
  room : 1224 ≤ length l.out;
  less : (base : ℕ) → stream_left l.lane.sender + link_left (g.L.Link.state l.link) base ≤ stream_left l.fn.lane.sender + link_left (g.L.Link.state l.fn.link) base;
}

abbrev pub decreases-due : goal.decreases-due
decreases-due g l = stream_left l.lane.sender
