use Rattle.std.proofs.Common.{◌≡◌, ◌≤◌, length, None}
use Rattle.hq_pump.specs.Exchange.{Run}
use Rattle.hq_pump.specs.Pumping.{at, IsLost, work_left}
use Rattle.hq_pump.proofs.run.pump.Given as goal

abbrev pub invariant-turns : goal.invariant-turns
invariant-turns g l = record {
  runs : Run (at l.fn.lanes.items (g.L.Link.state l.fn.link) (g.L.Link.state l.fn.link).troubles (g.T.Take.taken l.fn.take) None) (at l.lanes.items (g.L.Link.state l.link) l.base (g.T.Take.taken l.take) None);
  room_in : 1224 ≤ length l.into;
  room_out : 1224 ≤ length l.out;
  few : length l.lanes.items ≤ 16;
  fresh : IsLost l.base (g.L.Link.state l.link).troubles → l.lanes.items ≡ l.fn.lanes.items;
}

abbrev pub decreases-turns : goal.decreases-turns
decreases-turns g l = work_left l.lanes.items (g.L.Link.state l.link) l.base
