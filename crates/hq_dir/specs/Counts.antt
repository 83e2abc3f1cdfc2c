-- What a store and a host over folders have counted.
--     StoreCounts, HostCounts                the counts
--     CountsFault result before now          one fault more exactly where a call answered Failed
--     CountsFailure result before now        the same of a call that has no other fault
use Rattle.std.specs.Prelude.{◌≡◌, ℕ, Result, OnOk, OnErr, IsErrOf}
use Rattle.hq_value.specs.Causes.{raised}
use Rattle.hq_store.specs.declared.store.StoreFault.{StoreFault}
use Rattle.hq_store.specs.declared.store.StoreFault.TheVariants as fault

-- how many calls of a store failed, and how many bytes its reads gave
pub record StoreCounts : Type 0 where
  pub faults : ℕ
  pub given : ℕ

-- how often a host was checked, and how many checks failed
pub record HostCounts : Type 0 where
  pub checks : ℕ
  pub faults : ℕ

-- one fault more exactly where a call answered Failed
pub record CountsFault {T : Type 0} (result : Result T StoreFault) (before now : ℕ) : Type 0 where
  pub failed : IsErrOf result fault.Failed → now ≡ raised before 1
  pub fine : OnOk result (now ≡ before)
  pub no_memory : IsErrOf result fault.NoMemory → now ≡ before

-- one fault more exactly where a call failed
pub record CountsFailure {T E : Type 0} (result : Result T E) (before now : ℕ) : Type 0 where
  pub failed : OnErr result (now ≡ raised before 1)
  pub fine : OnOk result (now ≡ before)
