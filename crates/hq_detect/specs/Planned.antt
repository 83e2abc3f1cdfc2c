-- Planned failures.
--     PlannedHost                a host by its plan: which checks fail, how many there were, and how many failed
--     is_planned fails check     the check of this number fails
--     next_fails fails checks    the next one does, after so many
--     IsDone fails checks        no failure is planned for a later check
use Rattle.std.specs.Prelude.{◌≡◌, ℕ, ◌+◌, ◌<◌, ◌^◌, ◌==◌, ◌&&◌, Bool, false, List, nat_lt}
use Rattle.std.specs.List.{list_any}

-- which checks fail, counted from 1, how many there were, and how many failed
pub record PlannedHost : Type 0 where
  pub fails : List ℕ
  pub checks : ℕ
  pub faults : ℕ

-- the check of this number fails
abbrev pub is_planned : List ℕ → ℕ → Bool
is_planned fails check = list_any (λ planned. planned == check) fails

-- the next one does, after so many; none is counted past the count's end
abbrev pub next_fails : List ℕ → ℕ → Bool
next_fails fails checks = nat_lt (checks + 1) (2 ^ 64) && is_planned fails (checks + 1)

-- no failure is planned for a later check
abbrev pub IsDone : List ℕ → ℕ → Type 0
IsDone fails checks = (check : ℕ) → checks < check → is_planned fails check ≡ false
