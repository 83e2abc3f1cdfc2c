-- What each answer of a call leaves is a step of a file.
use Rattle.std.proofs.Common.{ℕ, Bool, List, Result, Ok, Err, refl}
use Rattle.hq_value.specs.declared.fault.Failed.{Failed}
use Rattle.hq_store.specs.declared.store.StoreFault.{StoreFault}
use Rattle.hq_store.specs.declared.store.StoreFault.TheVariants as fault
use Rattle.hq_store.specs.FileStep.{FileState}
use Rattle.hq_store.specs.FileRun.{FileStep, appends, append_fails, cuts, cut_fails, changes_nothing}
use Rattle.hq_store.specs.Outcomes.{AfterAppend, AfterCut}

pub append_step : (told : Bool) (old new : FileState) (added : List ℕ) (result : Result Unit StoreFault) → AfterAppend told old added result new → FileStep told old new
append_step told old new added (Ok _) after = appends added after.no_tail after.ok
append_step told old new added (Err fault.Failed) after = append_fails after.no_tail (after.torn refl)
append_step told old new added (Err fault.NoMemory) after = changes_nothing (after.same refl)

pub cut_step : (told : Bool) (old new : FileState) (len : ℕ) (result : Result Unit Failed) → AfterCut told old len result new → FileStep told old new
cut_step told old new len (Ok _) after = cuts len after.sealed after.sure after.ok
cut_step told old new len (Err _) after = cut_fails len after.sealed after.sure after.torn
