-- Rows written to the parts of a lane.
--     IsUsed part                             it has the file of a bucket
--     IsWholePart part                        none of its files is torn
--     HasSameHead old new                     nothing of it changes but its files
--     WritesPart told kinds shares old new    each of its files has the blocks of its bucket's rows more
--     BeginsPart told kinds shares old new    each has the blocks of some first ones of them more
use Rattle.std.specs.Prelude.{◌≡◌, ℕ, ◌<◌, Bool, true, false, List, Result, Ok, Err}
use Rattle.hq_value.specs.declared.kind.Kind.{Kind}
use Rattle.hq_value.specs.Bucket.{Buckets}
use Rattle.hq_lane.specs.Lanes.{PartState, file_of, owns}
use Rattle.hq_txn.specs.Writes.{IsWritten, IsBegun}
use Rattle.hq_txn.specs.declared.task.Trouble.{Trouble}
use Rattle.hq_txn.specs.declared.task.Trouble.TheVariants as trouble

-- it has the file of a bucket
pub record IsUsed (part : PartState) : Type 0 where
  pub bucket : ℕ
  pub within : bucket < 16
  pub owned : owns part bucket ≡ true

-- none of its files is torn
abbrev pub IsWholePart : PartState → Type 0
IsWholePart part = (b : ℕ) → b < 16 → owns part b ≡ true → (file_of part.files b).torn ≡ false

-- nothing of it changes but its files
pub record HasSameHead (old new : PartState) : Type 0 where
  pub table : new.table ≡ old.table
  pub number : new.number ≡ old.number
  pub here : new.here ≡ old.here

-- each of its files has the blocks of its bucket's rows more
abbrev pub WritesPart : Bool → List Kind → Buckets → PartState → PartState → Type 0
WritesPart told kinds shares old new =
    (b : ℕ) → b < 16 → owns old b ≡ true → IsWritten told kinds (shares b) (file_of old.files b) (file_of new.files b)

-- each of its files has the blocks of some first ones of its bucket's rows more
abbrev pub BeginsPart : Bool → List Kind → Buckets → PartState → PartState → Type 0
BeginsPart told kinds shares old new =
    (b : ℕ) → b < 16 → owns old b ≡ true → IsBegun told kinds (shares b) (file_of old.files b) (file_of new.files b)

-- a fact but where the host failed
abbrev pub UnlessHost : Result Unit Trouble → Type 0 → Type 0
UnlessHost (Ok done) P = P
UnlessHost (Err trouble.Host) P = Unit {0}
UnlessHost (Err trouble.Store) P = P
UnlessHost (Err trouble.NoMemory) P = P

-- a fact but where the store failed
abbrev pub UnlessStore : Result Unit Trouble → Type 0 → Type 0
UnlessStore (Ok done) P = P
UnlessStore (Err trouble.Host) P = P
UnlessStore (Err trouble.Store) P = Unit {0}
UnlessStore (Err trouble.NoMemory) P = P

-- it went well, or memory was wanted
abbrev pub IsNoFault : Result Unit Trouble → Type 0
IsNoFault (Ok done) = Unit {0}
IsNoFault (Err trouble.Host) = ⊥
IsNoFault (Err trouble.Store) = ⊥
IsNoFault (Err trouble.NoMemory) = Unit {0}
