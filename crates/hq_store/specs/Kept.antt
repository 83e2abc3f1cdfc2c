-- What a store keeps of each file over a crash, where it tells this.
--     Kept                            the bytes of each file that a crash leaves, where the store tells them
--     untold                          a store that doesn't tell it
--     kept_of kept id                 those of one file, and none where the store doesn't tell
--     ChangesOnly id low old new      just the bytes of one file from `low` on may have changed
--     KeepsSeal told z kept           the bytes under the seal are kept
use Rattle.std.specs.Prelude.{◌≡◌, ℕ, List, [], take, Bool, Option, Some, None, is_some, IsTrue, IsSome}
use Rattle.hq_value.specs.declared.entry.FileId.{FileId}
use Rattle.hq_store.specs.FileStep.{SealState}

-- the bytes of each file that a crash leaves, where the store tells them
abbrev pub Kept : Type 0
Kept = Option (FileId → List ℕ)

-- a store that doesn't tell it
abbrev pub untold : Kept
untold = None

-- those of one file, and none where the store doesn't tell
abbrev pub kept_of : Kept → FileId → List ℕ
kept_of None id = []
kept_of (Some bytes) id = bytes id

-- what is kept of other files is as before, and so are the first `low` bytes of this one
pub record ChangesOnly (id : FileId) (low : ℕ) (old new : Kept) : Type 0 where
  pub told : is_some new ≡ is_some old
  pub others : (other : FileId) → (other ≡ id → ⊥) → kept_of new other ≡ kept_of old other
  pub own : take low (kept_of new id) ≡ take low (kept_of old id)

-- where the store tells what it keeps and the seal its bytes, what is kept of the file begins with these
abbrev pub KeepsSeal : Bool → SealState → Kept → Type 0
KeepsSeal told z kept = IsSome kept → IsTrue told → take z.len (kept_of kept z.id) ≡ z.bytes
