-- The rows so far and those of the blocks that are left are the rows from before and those of all blocks.
use Rattle.std.proofs.Common.{◌≡◌, ◌-◌, ◌++◌, [], true}
use Rattle.hq_lane.specs.FileBlocks.{kept_rows}
use Rattle.hq_table.specs.Home.{IsQuiet}
use Rattle.hq_table.proofs.scan.scan_bucket.Given as goal

abbrev pub invariant-loop-cursor : goal.invariant-loop-cursor
invariant-loop-cursor l = record {
  told : l.cursor.told ≡ true;
  kinds : l.cursor.kinds ≡ l.kinds;
  tests : l.cursor.tests ≡ [];
  rows : l.rows.items ++ kept_rows [] l.kinds l.cursor.left ≡ l.fn.rows.items ++ kept_rows [] l.kinds l.seal.bytes;
  quiet : IsQuiet l.store;
}

abbrev pub decreases-loop-cursor : goal.decreases-loop-cursor
decreases-loop-cursor l = l.cursor.to - l.cursor.at
