-- The rows of the blocks that were passed are pushed.
use Rattle.std.proofs.Common.{◌≡◌, ◌-◌, IsTrue}
use Rattle.hq_value.specs.Causes.{IsSteady}
use Rattle.hq_lane.specs.FileBlocks.{kept_rows, read_sum}
use Rattle.hq_exec.specs.Feeding.{Fed}
use Rattle.hq_exec.specs.Lines.{line_state}
use Rattle.hq_exec.proofs.feed.feed_blocks.Given as goal

abbrev pub invariant-passing : goal.invariant-passing
invariant-passing g l = record {
  same : l.cursor ≡ record l.initial.cursor { at = l.cursor.at; left = l.cursor.left };
  fed : Fed g.S.Store.faults g.S.Store.given g.S.Store.sound (IsTrue l.initial.cursor.told) l.initial.cursor.kinds
      (kept_rows l.initial.cursor.tests l.initial.cursor.kinds l.initial.cursor.left) (kept_rows l.initial.cursor.tests l.initial.cursor.kinds l.cursor.left)
      (read_sum l.initial.cursor.tests l.initial.cursor.kinds l.initial.cursor.left) (read_sum l.initial.cursor.tests l.initial.cursor.kinds l.cursor.left) l.initial.store l.store
      (line_state l.initial.line (g.O.RowOut.state l.initial.out)) (line_state l.line (g.O.RowOut.state l.out));
  steady : IsSteady g.S.Store.faults g.S.Store.sound l.initial.store l.store;
  kinds : (g.O.RowOut.state l.out).kinds ≡ (g.O.RowOut.state l.initial.out).kinds;
}

abbrev pub decreases-passing : goal.decreases-passing
decreases-passing g l = l.cursor.to - l.cursor.at
