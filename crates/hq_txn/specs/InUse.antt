-- The nodes that a write uses, their hosts and stores.
--     IsInUse marks n                       node n owns a bucket
--     HasAnswered checks faults old new     the host was checked and did not fail
--     HasFailed faults old new              its count of faults rose
use Rattle.std.specs.Prelude.{◌≡◌, ℕ, ◌<◌, Bool, List}
use Rattle.hq_value.specs.Causes.{Rose}
use Rattle.hq_detect.specs.Assign.{owner_of}

-- node n owns a bucket
pub record IsInUse (marks : List Bool) (n : ℕ) : Type 0 where
  pub bucket : ℕ
  pub within : bucket < 16
  pub owner : owner_of marks bucket ≡ n

-- the host was checked and did not fail
pub record HasAnswered {H : Type 0} (checks faults : H → ℕ) (old new : H) : Type 0 where
  pub checked : Rose (checks old) (checks new)
  pub held : faults new ≡ faults old

-- its count of faults rose
abbrev pub HasFailed : {X : Type 0} → (X → ℕ) → X → X → Type 0
HasFailed faults old new = Rose (faults old) (faults new)
