use Rattle.std.proofs.Common.{◌-◌, ◌≤◌, length, take}
use Rattle.hq_io.specs.Scanning.{Passes}
use Rattle.hq_io.proofs.scan.find_end.Given as goal

abbrev pub invariant-loop-at : goal.invariant-loop-at
invariant-loop-at l = record {
  within : l.at ≤ length l.bytes;
  passes : Passes l.fn.spot (take l.at l.bytes) l.spot;
}

abbrev pub decreases-loop-at : goal.decreases-loop-at
decreases-loop-at l = length l.bytes - l.at
