-- A lane at home: each place has just the bytes under its seal.
--     IsQuiet store               a store that has met no fault and meets none
--     AreHome files places        each place has just the committed bytes of its bucket
--     IsWritten kinds rows old new    a place after rows were written to it
use Rattle.std.specs.Prelude.{◌≡◌, ◌<◌, ◌≤◌, ℕ, true, false, List, [], ◌++◌, Option, Some, None, map, length, IsTrue, IsSomeAnd, slice_index_or}
use Rattle.hq_value.specs.declared.value.Value.{Value}
use Rattle.hq_value.specs.declared.kind.Kind.{Kind}
use Rattle.hq_block.specs.Block.{FileRows, pack}
use Rattle.hq_store.specs.MemPlan.{MemState, NoFailureLeft}
use Rattle.hq_lane.specs.Lanes.{LaneState, PartState, file_of}
use Rattle.hq_lane.specs.BucketFiles.{BucketState, base_bytes, IsGrown, IsSealed}
use Rattle.hq_value.specs.declared.table.Column.{Column}
use Rattle.hq_value.specs.Tables.{all_below}
use Rattle.hq_value.specs.Kinds.{kinds_of}
use Rattle.hq_value.specs.Bucket.{Buckets}
use Rattle.hq_table.specs.Kept.{bytes_in}
use Rattle.hq_store.specs.Pages.{Shared}

-- the rows of bucket b
abbrev pub rows_at : List (List (List Value)) → ℕ → List (List Value)
rows_at buckets b = slice_index_or buckets b []

-- a store that has met no fault and meets none
pub record IsQuiet (store : MemState) : Type 0 where
  pub faults : store.faults ≡ 0
  pub sound : NoFailureLeft store

-- the bytes under a seal that may not be there
abbrev pub seal_bytes : Option Shared → List ℕ
seal_bytes None = []
seal_bytes (Some seal) = seal.bytes

-- the committed bytes of each bucket
abbrev pub files_of : List (Option Shared) → List (List ℕ)
files_of seals = map seal_bytes seals

-- the place has just these bytes, all of them committed
pub record IsHome (bytes : List ℕ) (p : BucketState) : Type 0 where
  pub bytes_are : base_bytes p ≡ bytes
  pub whole : p.torn ≡ false
  pub committed : p.good ≡ p.base
  pub no_seal : p.fresh ≡ None

-- each place has just the committed bytes of its bucket
abbrev pub AreHome : List (List ℕ) → List BucketState → Type 0
AreHome files places = (b : ℕ) → b < 16 → IsHome (bytes_in files b) (file_of places b)

-- a place after these rows were written to it
pub record IsWritten (kinds : List Kind) (rows : List (List Value)) (old new : BucketState) : Type 0 where
  pub grown : IsGrown true old (pack kinds rows) new
  pub whole : new.torn ≡ false
  pub file : FileRows kinds (pack kinds rows) rows

-- a place after blocks were written to it
abbrev pub HasGrown : BucketState → BucketState → Type 0
HasGrown old new = (added : List ℕ) × IsGrown true old added new

-- nothing of a part changes but its places
pub record HasSameHead (old new : PartState) : Type 0 where
  pub table : new.table ≡ old.table
  pub number : new.number ≡ old.number
  pub here : new.here ≡ old.here

-- the place is sealed, or has not grown
pub record IsReady (p : BucketState) : Type 0 where
  pub sealed : IsSealed true true p
  pub still : p.base ≡ p.good → p.fresh ≡ None

-- the seal of bucket b
abbrev pub seal_or : {X : Type 0} → X → List X → ℕ → X
seal_or none seals b = slice_index_or seals b none

-- the blocks of the rows were added to the bytes
pub record IsAdded (kinds : List Kind) (rows : List (List Value)) (old new : List ℕ) : Type 0 where
  pub bytes : new ≡ old ++ pack kinds rows
  pub file : FileRows kinds (pack kinds rows) rows

-- what holds of every table
pub record IsTable (columns : List Column) (keys : List ℕ) (kinds : List Kind) (lane : Option LaneState) (seals : List (Option Shared)) : Type 0 where
  pub some_columns : 0 < length columns
  pub few_columns : length columns ≤ 64
  pub keyed : IsTrue (all_below (length columns) keys)
  pub kinds_are : kinds ≡ kinds_of columns
  pub sixteen : length seals ≡ 16
  pub home : IsSomeAnd lane (λ l. AreHome (files_of seals) l.files)
  pub kept : (rows : Buckets) × ((b : ℕ) → b < 16 → FileRows kinds (bytes_in (files_of seals) b) (rows b))
