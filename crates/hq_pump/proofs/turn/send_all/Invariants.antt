use Rattle.std.proofs.Common.{◌≡◌, ℕ, ◌≤◌, List, length, None}
use Rattle.hq_pump.specs.Exchange.{Run}
use Rattle.hq_pump.specs.Pumping.{at, all_done, AreIdle, work_left}
use Rattle.hq_pump.proofs.turn.send_all.Given as goal

abbrev pub invariant-loop-i : goal.invariant-loop-i
invariant-loop-i g l = record {
  runs : (base : ℕ) → (taken : ℕ → List ℕ) → Run (at l.fn.lanes.items (g.L.Link.state l.fn.link) base taken None) (at l.lanes.items (g.L.Link.state l.link) base taken None);
  idle : AreIdle l.lanes.items l.i;
  done : all_done l.lanes.items ≡ all_done l.fn.lanes.items;
  count : length l.lanes.items ≡ length l.fn.lanes.items;
  room : 1224 ≤ length l.out;
  less : (base : ℕ) → work_left l.lanes.items (g.L.Link.state l.link) base ≤ work_left l.fn.lanes.items (g.L.Link.state l.fn.link) base;
}
