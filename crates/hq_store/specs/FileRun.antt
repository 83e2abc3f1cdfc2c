-- Runs of calls on one file, and what lies under a seal.
--     FileStep told old new      what one call, or its failure, leaves of a file
--     FileRun told old new       what calls, one after another, leave of a file
--     IsKept told f              the sealed bytes are sure, and the sure bytes are there
--     KeepsSealed told old new   what lay under a seal still does, unchanged
use Rattle.std.specs.Prelude.{◌≡◌, ℕ, ◌≤◌, Bool, List, length, take, IsTrue}
use Rattle.hq_store.specs.FileStep.{FileState, HasNoTail, IsAppended, IsTornAt, IsCut, IsSame, IsSealed}

-- what one call, or its failure, leaves of a file that meets the call's conditions
pub data FileStep (told : Bool) (old new : FileState) : Type 0 where
  appends : (added : List ℕ) → HasNoTail told old → IsAppended told old added new → FileStep told old new
  append_fails : HasNoTail told old → IsTornAt told old old.sure new → FileStep told old new
  cuts : (len : ℕ) → old.sealed ≤ len → len ≤ old.sure → IsCut told old len new → FileStep told old new
  cut_fails : (len : ℕ) → old.sealed ≤ len → len ≤ old.sure → IsTornAt told old len new → FileStep told old new
  changes_nothing : IsSame told old new → FileStep told old new
  seals : HasNoTail told old → IsSealed told old new → FileStep told old new

-- what calls, one after another, leave of a file
pub data FileRun (told : Bool) (old : FileState) : FileState → Type 0 where
  no_call : FileRun told old old
  one_more : (now new : FileState) → FileRun told old now → FileStep told now new → FileRun told old new

-- the sealed bytes are sure, and the sure bytes are there
pub record IsKept (told : Bool) (f : FileState) : Type 0 where
  pub sealed : f.sealed ≤ f.sure
  pub there : IsTrue told → f.sure ≤ length f.bytes

-- what lay under a seal still does, unchanged
pub record KeepsSealed (told : Bool) (old new : FileState) : Type 0 where
  pub sealed : old.sealed ≤ new.sealed
  pub bytes : IsTrue told → take old.sealed new.bytes ≡ take old.sealed old.bytes
