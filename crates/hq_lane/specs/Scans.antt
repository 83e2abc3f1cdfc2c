-- What a scan of a range of bytes ends with.
--     IsFile kinds bytes                    the bytes are blocks of these kinds
--     BeginsNoBlock kinds bytes             no block of these kinds begins the bytes
--     HasRead told range len kinds rows     bytes of that length were read, and are a file of the rows
--     TakesBlock kinds bytes old new        the bytes are a block, whose rows were added
--     HasReadBlock told all at len kinds old new    so many bytes from `at` on are a block, whose rows were added
--     PassesBlock told all at kinds tests head old new    the block of this head was passed, and its rows added unless it is skipped
--     IsBadAt kinds from to at bytes        nothing that goes on from the bytes within the range begins with a block
--     IfRows, OnStore, IfBadBlock           a fact for one end
use Rattle.std.specs.Prelude.{◌≡◌, ℕ, ◌+◌, ◌-◌, ◌<◌, ◌≤◌, ◌++◌, Bool, true, false, List, length, take, slice_range, IsTrue}
use Rattle.hq_value.specs.declared.value.Value.{Value}
use Rattle.hq_value.specs.declared.kind.Kind.{Kind}
use Rattle.hq_block.specs.declared.head.BlockHead.{BlockHead}
use Rattle.hq_block.specs.declared.skip.ColumnTest.{ColumnTest}
use Rattle.hq_block.specs.Block.{IsBlock, FileRows}
use Rattle.hq_block.specs.Heads.{HeadLength, HeadIs}
use Rattle.hq_block.specs.Skipping.{skips, read_length}
use Rattle.hq_lane.specs.declared.scan_end.ScanEnd.{ScanEnd}
use Rattle.hq_lane.specs.declared.scan_end.ScanEnd.TheVariants.{Rows, Store, BadBlock, NoMemory}

-- the bytes are blocks of these kinds
abbrev pub IsFile : List Kind → List ℕ → Type 0
IsFile kinds bytes = (rows : List (List Value)) × FileRows kinds bytes rows

-- no block of these kinds begins the bytes
abbrev pub BeginsNoBlock : List Kind → List ℕ → Type 0
BeginsNoBlock kinds bytes = (rows : List (List Value)) (len : ℕ) → IsBlock kinds rows (take len bytes) → ⊥

-- bytes of that length were read, those of the range where it is told, and are a file of the rows
pub record HasRead (told : Bool) (range : List ℕ) (len : ℕ) (kinds : List Kind) (rows : List (List Value)) : Type 0 where
  pub bytes : List ℕ
  pub long : length bytes ≡ len
  pub are_told : IsTrue told → bytes ≡ range
  pub file : FileRows kinds bytes rows

-- the bytes are a block, whose rows were added
pub record TakesBlock (kinds : List Kind) (bytes : List ℕ) (old new : List (List Value)) : Type 0 where
  pub found : List (List Value)
  pub block : IsBlock kinds found bytes
  pub added : new ≡ old ++ found

-- so many bytes were read from `at` on, those that are there where they are told: a block, whose rows were added
pub record HasReadBlock (told : Bool) (all : List ℕ) (at len : ℕ) (kinds : List Kind) (old new : List (List Value)) : Type 0 where
  pub bytes : List ℕ
  pub long : length bytes ≡ len
  pub are_told : IsTrue told → bytes ≡ slice_range all at (at + len)
  pub taken : TakesBlock kinds bytes old new

-- the block that begins at `at` was passed: these bytes were read, those that are there where they are told, and no
-- others. They begin with its head and bounds. Where the tests skip it no row is added, else they are the block
pub record PassesBlock (told : Bool) (all : List ℕ) (at : ℕ) (kinds : List Kind) (tests : List ColumnTest) (head : BlockHead) (old new : List (List Value)) : Type 0 where
  pub bytes : List ℕ
  pub are_told : IsTrue told → bytes ≡ slice_range all at (at + length bytes)
  pub long : length bytes ≡ read_length tests head
  pub short : length bytes ≤ head.length
  pub front : ℕ
  pub within : front ≤ length bytes
  pub begun : HeadLength bytes front
  pub says : HeadIs kinds head (take front bytes)
  pub skipped : skips tests head.bounds ≡ true → new ≡ old
  pub taken : skips tests head.bounds ≡ false → TakesBlock kinds bytes old new

-- bytes from `at` on: nothing that goes on from them and does not pass the end of the range begins with a block
pub record IsBadAt (kinds : List Kind) (from to at : ℕ) (bytes : List ℕ) : Type 0 where
  pub behind : from ≤ at
  pub before : at < to
  pub within : at + length bytes ≤ to
  pub no_block : (more : List ℕ) → length (bytes ++ more) ≤ to - at → BeginsNoBlock kinds (bytes ++ more)

-- a fact for rows
abbrev pub IfRows : ScanEnd → (List (List Value) → Type 0) → Type 0
IfRows (Rows rows) P = P rows.items
IfRows Store P = Unit {0}
IfRows (BadBlock at bytes) P = Unit {0}
IfRows NoMemory P = Unit {0}

-- a fact for a fault of the store
abbrev pub OnStore : ScanEnd → Type 0 → Type 0
OnStore (Rows rows) P = Unit {0}
OnStore Store P = P
OnStore (BadBlock at bytes) P = Unit {0}
OnStore NoMemory P = Unit {0}

-- a fact for a bad block
abbrev pub IfBadBlock : ScanEnd → (ℕ → List ℕ → Type 0) → Type 0
IfBadBlock (Rows rows) P = Unit {0}
IfBadBlock Store P = Unit {0}
IfBadBlock (BadBlock at bytes) P = P at bytes.items
IfBadBlock NoMemory P = Unit {0}
