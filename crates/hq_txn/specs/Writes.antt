-- Rows written to a lane.
--     IsWritten told kinds rows old new     a file has the blocks of the rows more
--     IsBegun told kinds rows old new       a file has the blocks of some first rows more
--     AddsRows told def rows old new        each file of a lane has the blocks of its bucket's rows more
--     AddsFirst told def rows old new       each has the blocks of some first ones of them more
--     GainsRows told def rows old new       the rows behind the committed ones are the earlier ones and then its bucket's
use Rattle.std.specs.Prelude.{◌≡◌, ℕ, ◌<◌, Bool, false, List, ◌++◌, IsTrue}
use Rattle.hq_value.specs.declared.value.Value.{Value}
use Rattle.hq_value.specs.declared.kind.Kind.{Kind}
use Rattle.hq_value.specs.Bucket.{share}
use Rattle.hq_value.specs.Kinds.{kinds_of}
use Rattle.hq_value.specs.Tables.{Definition}
use Rattle.hq_block.specs.Block.{FileRows, pack}
use Rattle.hq_lane.specs.BucketFiles.{BucketState, own_bytes, IsGrown}
use Rattle.hq_lane.specs.Lanes.{LaneState, file_of}
use Rattle.hq_lane.specs.Packing.{GrewByFirst}

-- the file has the blocks of the rows more, which are a file of these rows, and is not torn
pub record IsWritten (told : Bool) (kinds : List Kind) (rows : List (List Value)) (old new : BucketState) : Type 0 where
  pub grown : IsGrown told old (pack kinds rows) new
  pub file : FileRows kinds (pack kinds rows) rows
  pub whole : new.torn ≡ false

-- the file has the blocks of some first rows more
abbrev pub IsBegun : Bool → List Kind → List (List Value) → BucketState → BucketState → Type 0
IsBegun told kinds rows old new = (count : ℕ) × GrewByFirst told kinds count rows old new

-- each file of the lane has the blocks of those of the rows that go to its bucket more
pub record AddsRows (told : Bool) (def : Definition) (rows : List (List Value)) (old new : LaneState) : Type 0 where
  pub table : new.table ≡ old.table
  pub number : new.number ≡ old.number
  pub files : (b : ℕ) → b < 16 → IsWritten told (kinds_of def.columns) (share def.keys rows b) (file_of old.files b) (file_of new.files b)

-- each file of the lane has the blocks of some first ones of those of the rows that go to its bucket more
pub record AddsFirst (told : Bool) (def : Definition) (rows : List (List Value)) (old new : LaneState) : Type 0 where
  pub table : new.table ≡ old.table
  pub number : new.number ≡ old.number
  pub files : (b : ℕ) → b < 16 → IsBegun told (kinds_of def.columns) (share def.keys rows b) (file_of old.files b) (file_of new.files b)

-- where the bytes behind the committed ones are told and are a file of rows, they are now one of these rows and then of those
-- of the others that go to the bucket
abbrev pub GainsRows : Bool → Definition → List (List Value) → LaneState → LaneState → Type 0
GainsRows told def rows old new =
    (b : ℕ) (kept : List (List Value)) → b < 16 → IsTrue told → FileRows (kinds_of def.columns) (own_bytes (file_of old.files b)) kept
    → FileRows (kinds_of def.columns) (own_bytes (file_of new.files b)) (kept ++ share def.keys rows b)
