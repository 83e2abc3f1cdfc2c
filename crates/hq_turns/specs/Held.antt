-- The lanes that a session has in hand.
--     slots lanes                    each by its table and number
--     Holds told tables lanes own    over these tables they hold just what was put
use Rattle.std.specs.Prelude.{ℕ, ◌<◌, Bool, List, map, length, IsTrue}
use Rattle.hq_value.specs.Tables.{Definition}
use Rattle.hq_block.specs.Block.{FileRows}
use Rattle.hq_lane.specs.BucketFiles.{own_bytes}
use Rattle.hq_lane.specs.Lanes.{LaneState, file_of}
use Rattle.hq_txn.specs.Transactions.{lane_of}
use Rattle.hq_transcript.specs.Tables.{Put, kinds_in, width}
use Rattle.hq_transcript.specs.Step.{Lanes}
use Rattle.hq_transcript.specs.History.{bucket_rows}

abbrev pub slot_of : LaneState → ℕ × ℕ
slot_of lane = (lane.table, lane.number)

abbrev pub slots : List LaneState → Lanes
slots lanes = map slot_of lanes

-- behind the committed bytes of each file are, where told, just the rows that were put into its bucket, over the table's kinds
pub record Holds (told : Bool) (tables : List Definition) (lanes : List LaneState) (own : List Put) : Type 0 where
  pub rows : (t b : ℕ) → IsTrue told → t < length tables → b < 16
      → FileRows (kinds_in tables t) (own_bytes (file_of (lane_of lanes t).files b)) (bucket_rows (width tables t) own t b)
