-- The rows up to `at` are pushed.
use Rattle.std.proofs.Common.{◌≡◌, ◌≤◌, ◌-◌, length, take}
use Rattle.hq_exec.specs.Lines.{CanTake, Takes, line_state}
use Rattle.hq_exec.proofs.feed.feed_rows.Given as goal

abbrev pub invariant-batches : goal.invariant-batches
invariant-batches g l = record {
  within : l.at ≤ length l.rows;
  takes : Takes l.fn.kinds (take l.at l.rows) (line_state l.initial.line (g.O.RowOut.state l.initial.out)) (line_state l.line (g.O.RowOut.state l.out));
  can_take : CanTake l.fn.kinds (line_state l.line (g.O.RowOut.state l.out));
  kinds : (g.O.RowOut.state l.out).kinds ≡ (g.O.RowOut.state l.initial.out).kinds;
}

abbrev pub decreases-batches : goal.decreases-batches
decreases-batches g l = length l.rows - l.at
