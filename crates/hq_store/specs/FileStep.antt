-- A file and a seal of a store as contracts see them, and what each call leaves of a file.
-- `told` says whether the type of the files tells their bytes. No call changes the id of a file.
--     HasNoTail told f              the file has just its sure bytes
--     IsFresh told id new           a file of that id with no bytes
--     IsAppended told old xs new    the bytes xs are added
--     IsTornAt told old len new     the first `len` bytes stay, and any bytes may follow them
--     IsCut told old len new        just the first `len` bytes stay
--     IsSame told old new           no byte changes
--     IsSealed told old new         no byte changes, and all the sure ones lie under a seal
--     StaysUnflushed old new        the file is not flushed where it was not
use Rattle.std.specs.Prelude.{◌≡◌, ℕ, ◌+◌, ◌≤◌, Bool, false, List, [], ◌++◌, length, take, IsTrue}
use Rattle.hq_value.specs.declared.entry.FileId.{FileId}

-- the id with which it was made, its bytes, how many of them are known to be there, how many lie under a seal, and
-- whether it is flushed
pub record FileState : Type 0 where
  pub id : FileId
  pub bytes : List ℕ
  pub sure : ℕ
  pub sealed : ℕ
  pub flushed : Bool

-- the id of its file, its bytes and their number
pub record SealState : Type 0 where
  pub id : FileId
  pub bytes : List ℕ
  pub len : ℕ

-- the file has just its sure bytes
abbrev pub HasNoTail : Bool → FileState → Type 0
HasNoTail told f = IsTrue told → length f.bytes ≡ f.sure

-- a file of that id with no bytes
pub record IsFresh (told : Bool) (id : FileId) (new : FileState) : Type 0 where
  pub made : new.id ≡ id
  pub bytes : IsTrue told → new.bytes ≡ []
  pub sure : new.sure ≡ 0
  pub sealed : new.sealed ≡ 0

-- the bytes are added, and the file has to be flushed again
pub record IsAppended (told : Bool) (old : FileState) (added : List ℕ) (new : FileState) : Type 0 where
  pub id : new.id ≡ old.id
  pub bytes : IsTrue told → new.bytes ≡ old.bytes ++ added
  pub sure : new.sure ≡ old.sure + length added
  pub sealed : new.sealed ≡ old.sealed
  pub flushed : new.flushed ≡ false

-- the first `len` bytes stay, and any bytes may follow them
pub record IsTornAt (told : Bool) (old : FileState) (len : ℕ) (new : FileState) : Type 0 where
  pub id : new.id ≡ old.id
  pub bytes : IsTrue told → take len new.bytes ≡ take len old.bytes
  pub long : IsTrue told → len ≤ length new.bytes
  pub sure : new.sure ≡ len
  pub sealed : new.sealed ≡ old.sealed
  pub flushed : new.flushed ≡ false

-- just the first `len` bytes stay
pub record IsCut (told : Bool) (old : FileState) (len : ℕ) (new : FileState) : Type 0 where
  pub id : new.id ≡ old.id
  pub bytes : IsTrue told → new.bytes ≡ take len old.bytes
  pub sure : new.sure ≡ len
  pub sealed : new.sealed ≡ old.sealed
  pub flushed : new.flushed ≡ false

-- no byte changes
pub record IsSame (told : Bool) (old new : FileState) : Type 0 where
  pub id : new.id ≡ old.id
  pub bytes : IsTrue told → new.bytes ≡ old.bytes
  pub sure : new.sure ≡ old.sure
  pub sealed : new.sealed ≡ old.sealed

-- no byte changes, all the sure ones lie under a seal, and the file has to be flushed again
pub record IsSealed (told : Bool) (old new : FileState) : Type 0 where
  pub id : new.id ≡ old.id
  pub bytes : IsTrue told → new.bytes ≡ old.bytes
  pub sure : new.sure ≡ old.sure
  pub sealed : new.sealed ≡ old.sure
  pub flushed : new.flushed ≡ false

-- the file is not flushed where it was not
abbrev pub StaysUnflushed : FileState → FileState → Type 0
StaysUnflushed old new = IsTrue new.flushed → IsTrue old.flushed
