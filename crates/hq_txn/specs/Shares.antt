-- A statement's rows by their buckets, as references to them.
--     share_in shares b        the rows to which the references of bucket b lead
use Rattle.std.specs.Prelude.{List, [], slice_index_or}
use Rattle.std.specs.Borrow.{Bor}
use Rattle.hq_value.specs.declared.value.Value.{Value}
use Rattle.hq_value.specs.Bucket.{Buckets}
use Rattle.hq_lane.specs.Packing.{chosen_rows}

-- the rows to which the references of bucket b lead
abbrev pub share_in : List (List (Bor (List Value))) → Buckets
share_in shares b = chosen_rows (slice_index_or shares b [])
