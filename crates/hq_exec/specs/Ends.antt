-- How slices end.
--     IfDone, OnRead end P        a fact where the rows were put; where all files were read
--     IsNumericAt end fault       Numeric comes where an evaluation faults, and nowhere else
--     IfBad end P                 a fact for a bad block
--     IsBadIn root buckets ..     the file is one of a scanned table, in a given bucket, and the bytes begin no block
use Rattle.std.specs.Prelude.{◌≡◌, ℕ, Bool, true, false, List, IsTrue, Contains, Result, Ok, Err}
use Rattle.hq_value.specs.declared.kind.Kind.{Kind}
use Rattle.hq_value.specs.declared.value.Value.{Value}
use Rattle.hq_value.specs.declared.entry.FileId.{FileId}
use Rattle.hq_algebra.specs.declared.op.Op.{Op}
use Rattle.hq_algebra.specs.declared.op.Op.TheVariants as op
use Rattle.hq_algebra.specs.Plans.{operators}
use Rattle.hq_lane.specs.Scans.{IsBadAt}
use Rattle.hq_exec.specs.declared.end.Ending.{Ending}
use Rattle.hq_exec.specs.declared.end.Ending.TheVariants as ending
use Rattle.hq_exec.specs.declared.end.FlowEnd.{FlowEnd}
use Rattle.hq_exec.specs.declared.end.FlowEnd.TheVariants as flow
use Rattle.hq_exec.specs.declared.end.SliceEnd.{SliceEnd}
use Rattle.hq_exec.specs.declared.end.SliceEnd.TheVariants as slice
use Rattle.hq_exec.specs.Files.{has_bucket}

-- the bytes begin no block of this file
pub record IsBadBlock (file : FileId) (kinds : List Kind) (id : FileId) (at : ℕ) (bytes : List ℕ) : Type 0 where
  pub is : id ≡ file
  pub from : ℕ
  pub to : ℕ
  pub bad : IsBadAt kinds from to at bytes

-- of a file of this table, in this bucket
pub record IsBadOf (table bucket : ℕ) (kinds : List Kind) (id : FileId) (at : ℕ) (bytes : List ℕ) : Type 0 where
  pub table_is : id.table ≡ table
  pub bucket_is : id.bucket ≡ bucket
  pub from : ℕ
  pub to : ℕ
  pub bad : IsBadAt kinds from to at bytes

-- of a file of this table, in a given bucket
pub record IsBadFor (table : ℕ) (kinds : List Kind) (buckets : List ℕ) (id : FileId) (at : ℕ) (bytes : List ℕ) : Type 0 where
  pub table_is : id.table ≡ table
  pub given : IsTrue (has_bucket buckets id.bucket)
  pub from : ℕ
  pub to : ℕ
  pub bad : IsBadAt kinds from to at bytes

-- of a file of the table that a leaf scans, in a given bucket
pub record IsBadLeaf (leaf : Op) (buckets : List ℕ) (id : FileId) (at : ℕ) (bytes : List ℕ) : Type 0 where
  pub kinds : List Kind
  pub is : leaf ≡ op.Scan id.table kinds
  pub given : IsTrue (has_bucket buckets id.bucket)
  pub from : ℕ
  pub to : ℕ
  pub bad : IsBadAt kinds from to at bytes

-- the bytes begin no block of a file of a scanned table, in a given bucket
pub record IsBadIn (root : Op) (buckets : List ℕ) (file : FileId) (at : ℕ) (bytes : List ℕ) : Type 0 where
  pub kinds : List Kind
  pub scanned : Contains (operators root) (op.Scan file.table kinds)
  pub given : IsTrue (has_bucket buckets file.bucket)
  pub from : ℕ
  pub to : ℕ
  pub bad : IsBadAt kinds from to at bytes

-- a fact for a bad block
abbrev pub IfBadBlock : {T : Type 0} → Result T Ending → (FileId → ℕ → List ℕ → Type 0) → Type 0
IfBadBlock (Ok x) P = Unit {0}
IfBadBlock (Err ending.Store) P = Unit {0}
IfBadBlock (Err (ending.BadBlock file at bytes)) P = P file at bytes.items
IfBadBlock (Err ending.NoMemory) P = Unit {0}

-- a fact where the rows were put
abbrev pub IfDone : FlowEnd → Type 0 → Type 0
IfDone flow.Done P = P
IfDone _ P = Unit {0}

-- a fact where all files were read
abbrev pub OnRead : FlowEnd → Type 0 → Type 0
OnRead flow.Done P = P
OnRead flow.Numeric P = P
OnRead _ P = Unit {0}

-- Numeric comes where an evaluation faults, and nowhere else
abbrev pub IsNumericAt : FlowEnd → Bool → Type 0
IsNumericAt flow.Done fault = fault ≡ false
IsNumericAt flow.Numeric fault = fault ≡ true
IsNumericAt _ fault = Unit {0}

-- a fact for a fault of the store, or of the host, and for any other end than the host's
abbrev pub OnStore : FlowEnd → Type 0 → Type 0
OnStore flow.Store P = P
OnStore _ P = Unit {0}

abbrev pub OnHost : FlowEnd → Type 0 → Type 0
OnHost flow.Host P = P
OnHost _ P = Unit {0}

abbrev pub OffHost : FlowEnd → Type 0 → Type 0
OffHost flow.Host P = Unit {0}
OffHost _ P = P

-- a fact for a bad block
abbrev pub IfBad : FlowEnd → (FileId → ℕ → List ℕ → Type 0) → Type 0
IfBad (flow.BadBlock file at bytes) P = P file at bytes.items
IfBad _ P = Unit {0}

-- the end of a slice whose reading ended so
abbrev pub end_of : Result Bool Ending → FlowEnd
end_of (Ok false) = flow.Done
end_of (Ok true) = flow.Numeric
end_of (Err ending.Store) = flow.Store
end_of (Err (ending.BadBlock file at bytes)) = flow.BadBlock file at bytes
end_of (Err ending.NoMemory) = flow.NoMemory

-- the end of a slice that gives a list, as one whose rows are put
abbrev pub as_flow : SliceEnd → FlowEnd
as_flow (slice.Rows rows) = flow.Done
as_flow slice.Numeric = flow.Numeric
as_flow slice.Store = flow.Store
as_flow slice.Host = flow.Host
as_flow (slice.BadBlock file at bytes) = flow.BadBlock file at bytes
as_flow slice.NoMemory = flow.NoMemory

-- a fact for the rows
abbrev pub IfRows : SliceEnd → (List (List Value) → Type 0) → Type 0
IfRows (slice.Rows rows) P = P rows.items
IfRows _ P = Unit {0}
