-- The rows of the blocks up to `at` are read, each once.
use Rattle.std.proofs.Common.{◌≤◌, ◌-◌, slice_range}
use Rattle.hq_value.specs.Causes.{GoesOnGiving}
use Rattle.hq_lane.specs.Scans.{HasRead}
use Rattle.hq_lane.proofs.scan.scan.Given as goal

abbrev pub invariant-loop-at : goal.invariant-loop-at
invariant-loop-at g l = record {
  behind : l.from ≤ l.at;
  before : l.at ≤ l.to;
  read : HasRead (g.R.Readable.tells l.range) (slice_range (g.R.Readable.bytes l.range) l.from l.at) (l.at - l.from) l.kinds l.rows.items;
  gave : GoesOnGiving g.S.Store.faults g.S.Store.given g.S.Store.sound (l.at - l.from) l.initial.store l.store;
}

abbrev pub decreases-loop-at : goal.decreases-loop-at
decreases-loop-at g l = l.to - l.at
