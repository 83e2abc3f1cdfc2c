-- The file of one bucket of a lane: how far it is committed, and how far it has whole blocks.
-- `told` says whether the type of the files tells their bytes, and `seal_told` the same of the seals.
--     no_file id                           there is none yet
--     found_file f len                     one that was found, of which so many bytes are committed
--     base_bytes, own_bytes, good_bytes    the committed bytes, the blocks behind them, and both
--     IsSound told seal_told f             what holds of every one
--     is_clean f                           it has just its committed bytes
--     IsGrown told old added new           the bytes are added to the good ones
--     IsCutBack, IsTornBack                what a cut to the committed bytes leaves, and one that failed
--     KeepsBytes told old new              no byte changes
--     KeepsBase told old new               no committed byte changes
--     StaysIfClean old new                 a clean one is left as it is
--     IsFlushed f                          if it has grown, its file is flushed
--     IsSealed told seal_told f            it is whole, and if it has grown it has a fresh seal of its bytes
--     KeepsFile told old new               nothing changes but the seal
--     published f                          what is under its fresh seal is committed
use Rattle.std.specs.Prelude.{◌≡◌, ℕ, ◌+◌, ◌<◌, ◌≤◌, ◌==◌, Bool, true, false, not, ◌&&◌, List, [], ◌++◌, length, take, drop, IsTrue, Option, Some, None, IsNone, IsSomeAnd}
use Rattle.std.specs.Option.{ForSome}
use Rattle.hq_value.specs.declared.entry.FileId.{FileId}
use Rattle.hq_store.specs.FileStep.{FileState, SealState, HasNoTail}

-- the id of its file, the file, how many bytes are committed, how many are whole blocks, whether others may follow those, and a seal
-- that is not committed yet
pub record BucketState : Type 0 where
  pub id : FileId
  pub file : Option FileState
  pub base : ℕ
  pub good : ℕ
  pub torn : Bool
  pub fresh : Option SealState

-- there is none yet
abbrev pub no_file : FileId → BucketState
no_file id = record { id = id; file = None; base = 0; good = 0; torn = false; fresh = None }

-- a file that was found, of which so many bytes are committed
abbrev pub found_file : FileState → ℕ → BucketState
found_file f len = record { id = f.id; file = Some f; base = len; good = len; torn = false; fresh = None }

-- the bytes of a file that may not be there
abbrev pub file_bytes : Option FileState → List ℕ
file_bytes None = []
file_bytes (Some f) = f.bytes

-- the committed bytes
abbrev pub base_bytes : BucketState → List ℕ
base_bytes p = take p.base (file_bytes p.file)

-- the committed bytes and the whole blocks behind them
abbrev pub good_bytes : BucketState → List ℕ
good_bytes p = take p.good (file_bytes p.file)

-- the whole blocks behind the committed bytes
abbrev pub own_bytes : BucketState → List ℕ
own_bytes p = drop p.base (good_bytes p)

-- how far the file lies under a seal
abbrev pub sealed_end : BucketState → ℕ → Option SealState → ℕ
sealed_end p base None = base
sealed_end p base (Some z) = z.len

-- what holds of every one
pub record IsSound (told seal_told : Bool) (p : BucketState) : Type 0 where
  pub base_le_good : p.base ≤ p.good
  pub absent : IsNone p.file → (p.good ≡ 0) × (p.torn ≡ false) × (p.fresh ≡ None)
  pub sure : ForSome p.file (λ f. f.sure ≡ p.good)
  pub sealed : ForSome p.file (λ f. f.sealed ≡ sealed_end p p.base p.fresh)
  pub no_tail : ForSome p.file (λ f. p.torn ≡ false → HasNoTail told f)
  pub long : ForSome p.file (λ f. IsTrue told → p.good ≤ length f.bytes)
  pub fresh_len : ForSome p.fresh (λ z. (p.base ≤ z.len) × (z.len ≤ p.good))
  pub file_id : ForSome p.file (λ f. f.id ≡ p.id)
  pub seal_id : ForSome p.fresh (λ z. z.id ≡ p.id)
  pub fresh_bytes : ForSome p.fresh (λ z. IsTrue told → IsTrue seal_told → z.bytes ≡ take z.len (file_bytes p.file))

-- it has just its committed bytes
abbrev pub is_clean : BucketState → Bool
is_clean p = not p.torn && (p.good == p.base)

-- the bytes are added to the good ones, and nothing else changes
pub record IsGrown (told : Bool) (old : BucketState) (added : List ℕ) (new : BucketState) : Type 0 where
  pub id : new.id ≡ old.id
  pub bytes : IsTrue told → good_bytes new ≡ good_bytes old ++ added
  pub own : IsTrue told → own_bytes new ≡ own_bytes old ++ added
  pub committed : IsTrue told → base_bytes new ≡ base_bytes old
  pub good : new.good ≡ old.good + length added
  pub base : new.base ≡ old.base
  pub fresh : new.fresh ≡ old.fresh

-- just the committed bytes stay
pub record IsCutBack (told : Bool) (old new : BucketState) : Type 0 where
  pub id : new.id ≡ old.id
  pub bytes : IsTrue told → file_bytes new.file ≡ base_bytes old
  pub good : new.good ≡ old.base
  pub base : new.base ≡ old.base
  pub torn : new.torn ≡ false
  pub fresh : new.fresh ≡ None

-- the committed bytes stay, and any may follow them
pub record IsTornBack (told : Bool) (old new : BucketState) : Type 0 where
  pub id : new.id ≡ old.id
  pub bytes : IsTrue told → base_bytes new ≡ base_bytes old
  pub good : new.good ≡ old.base
  pub base : new.base ≡ old.base
  pub torn : new.torn ≡ true
  pub fresh : new.fresh ≡ None

-- no committed byte changes
pub record KeepsBase (told : Bool) (old new : BucketState) : Type 0 where
  pub id : new.id ≡ old.id
  pub bytes : IsTrue told → base_bytes new ≡ base_bytes old
  pub base : new.base ≡ old.base
  pub fresh : new.fresh ≡ old.fresh

-- a clean one is left as it is
abbrev pub StaysIfClean : BucketState → BucketState → Type 0
StaysIfClean old new = is_clean old ≡ true → new ≡ old

-- no byte changes
pub record KeepsBytes (told : Bool) (old new : BucketState) : Type 0 where
  pub id : new.id ≡ old.id
  pub bytes : IsTrue told → file_bytes new.file ≡ file_bytes old.file
  pub good : new.good ≡ old.good
  pub base : new.base ≡ old.base
  pub torn : new.torn ≡ old.torn
  pub fresh : new.fresh ≡ old.fresh

-- if it has grown, its file is flushed
abbrev pub IsFlushed : BucketState → Type 0
IsFlushed p = p.base < p.good → ForSome p.file (λ f. f.flushed ≡ true)

-- a seal of all its bytes
pub record IsSealOf (told seal_told : Bool) (p : BucketState) (z : SealState) : Type 0 where
  pub len : z.len ≡ p.good
  pub bytes : IsTrue told → IsTrue seal_told → z.bytes ≡ file_bytes p.file

-- it is not torn, and if it has grown it has a fresh seal of its bytes
pub record IsSealed (told seal_told : Bool) (p : BucketState) : Type 0 where
  pub whole : p.torn ≡ false
  pub grown : p.base < p.good → IsSomeAnd p.fresh (IsSealOf told seal_told p)

-- nothing changes but the seal, and nothing at all if it has not grown
pub record KeepsFile (told : Bool) (old new : BucketState) : Type 0 where
  pub id : new.id ≡ old.id
  pub bytes : IsTrue told → file_bytes new.file ≡ file_bytes old.file
  pub good : new.good ≡ old.good
  pub base : new.base ≡ old.base
  pub torn : new.torn ≡ old.torn
  pub still : old.base ≡ old.good → new ≡ old

-- what is left when what is under a seal is committed
abbrev pub published_with : BucketState → Option SealState → BucketState
published_with p None = p
published_with p (Some z) = record p { base = z.len; fresh = None }

-- what is under its fresh seal is committed
abbrev pub published : BucketState → BucketState
published p = published_with p p.fresh
