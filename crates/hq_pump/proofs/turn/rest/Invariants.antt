use Rattle.std.proofs.Common.{◌≡◌, ℕ, ◌+◌, ◌*◌, ◌≤◌, List, length, map, None}
use Rattle.hq_pump.specs.Exchange.{Run, asked_again}
use Rattle.hq_pump.specs.Pumping.{at, work_left}
use Rattle.hq_pump.proofs.turn.rest.Given as goal

abbrev pub invariant-loop-i : goal.invariant-loop-i
invariant-loop-i g l = record {
  runs : (base : ℕ) → (taken : ℕ → List ℕ) → Run (at (map asked_again l.fn.lanes.items) (g.L.Link.state l.fn.link) base taken None) (at l.lanes.items (g.L.Link.state l.link) base taken None);
  count : length l.lanes.items ≡ length l.fn.lanes.items;
  room : 1224 ≤ length l.out;
  less : (base : ℕ) → work_left l.lanes.items (g.L.Link.state l.link) base ≤ work_left l.fn.lanes.items (g.L.Link.state l.fn.link) base + 3 * length l.fn.lanes.items + 2 * l.i;
}
