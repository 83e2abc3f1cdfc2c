use Rattle.std.proofs.Common.{◌≡◌, ◌++◌, length, take, drop, map}
use Rattle.hq_pump.specs.Exchange.{asked_again}
use Rattle.hq_pump.proofs.turn.ask_again.Given as goal

abbrev pub invariant-loop-i : goal.invariant-loop-i
invariant-loop-i l = record {
  asked : l.lanes.items ≡ map asked_again (take l.i l.fn.lanes.items) ++ drop l.i l.fn.lanes.items;
  count : length l.lanes.items ≡ length l.fn.lanes.items;
}
