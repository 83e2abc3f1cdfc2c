-- What the store, the host and the link of a bench tell.
use Rattle.std.specs.Prelude.{ℕ}
use Rattle.hq_link.specs.Link.{LinkState}

-- a store's count of faults, how much it gave, and whether it is sound; a host's counts of checks and of faults, and whether
-- it is sound; and a link as contracts see it
pub record Outside (S H L : Type 0) : Type 1 where
  pub faults : S → ℕ
  pub given : S → ℕ
  pub sound : S → Type 0
  pub checks : H → ℕ
  pub host_faults : H → ℕ
  pub host_sound : H → Type 0
  pub state : L → LinkState

abbrev pub outside : {S H L : Type 0} → (S → ℕ) → (S → ℕ) → (S → Type 0) → (H → ℕ) → (H → ℕ) → (H → Type 0) → (L → LinkState) → Outside S H L
outside faults given sound checks host_faults host_sound state = record { faults = faults; given = given; sound = sound; checks = checks; host_faults = host_faults; host_sound = host_sound; state = state }
