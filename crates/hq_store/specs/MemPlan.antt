-- The calls that a store in memory was told to fail, and what it has counted.
--     next_tail store         what the next call leaves where it is planned to fail
--     NoFailureLeft store     no planned call is still to come
--     IsCounted old new       one more call, which is a fault exactly where it was planned
use Rattle.std.specs.Prelude.{◌≡◌, ℕ, ◌<◌, List, Option, All, find, nat_eq, option_map, is_some, if◌then◌else◌}
use Rattle.hq_store.specs.declared.mem_store.Planned.{Planned}
use Rattle.hq_value.specs.Causes.{raised}

-- the calls that fail, and the counts of calls, of faults and of the bytes that reads gave
pub record MemState : Type 0 where
  pub plan : List Planned
  pub calls : ℕ
  pub faults : ℕ
  pub given : ℕ

-- how many bytes the call of that number leaves where it is an append, and none where it is not planned to fail
abbrev pub planned_tail : List Planned → ℕ → Option ℕ
planned_tail plan call = option_map (λ p. p.tail) (find (λ p. nat_eq p.call call) plan)

-- the same of the next call
abbrev pub next_tail : MemState → Option ℕ
next_tail store = planned_tail store.plan (raised store.calls 1)

-- no planned call is still to come
abbrev pub NoFailureLeft : MemState → Type 0
NoFailureLeft store = All (λ p. p.call < raised store.calls 1) store.plan

-- one more call, which is a fault exactly where it was planned
pub record IsCounted (old new : MemState) : Type 0 where
  pub plan : new.plan ≡ old.plan
  pub calls : new.calls ≡ raised old.calls 1
  pub faults : new.faults ≡ (if is_some (next_tail old) then raised old.faults 1 else old.faults)
