-- What each call of a store leaves of a file, with the call's answer.
--     AfterAppend, AfterCut, AfterFlush, AfterSeal
use Rattle.std.specs.Prelude.{ℕ, ◌≤◌, Bool, List, Result, OnOk, OnErr, IsErrOf}
use Rattle.hq_value.specs.declared.fault.Failed.{Failed}
use Rattle.hq_store.specs.declared.store.StoreFault.{StoreFault}
use Rattle.hq_store.specs.declared.store.StoreFault.TheVariants as fault
use Rattle.hq_store.specs.FileStep.{FileState, HasNoTail, IsAppended, IsTornAt, IsCut, IsSame}

-- an append to a file that had just its sure bytes
pub record AfterAppend (told : Bool) (old : FileState) (added : List ℕ) (result : Result Unit StoreFault) (new : FileState) : Type 0 where
  pub no_tail : HasNoTail told old
  pub ok : OnOk result (IsAppended told old added new)
  pub torn : IsErrOf result fault.Failed → IsTornAt told old old.sure new
  pub same : IsErrOf result fault.NoMemory → IsSame told old new

-- a cut between the sealed and the sure bytes
pub record AfterCut (told : Bool) (old : FileState) (len : ℕ) (result : Result Unit Failed) (new : FileState) : Type 0 where
  pub sealed : old.sealed ≤ len
  pub sure : len ≤ old.sure
  pub ok : OnOk result (IsCut told old len new)
  pub torn : OnErr result (IsTornAt told old len new)
