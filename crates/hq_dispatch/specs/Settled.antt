-- How the tasks of a slice ended, and of its motion.
--     HasSameHead old new        a task has the bench and the rows that it had
--     AreSameHeads old new       and so each of them
--     AreTaken tasks parcels     the rows that each node sends
--     AreDone tasks              each node's slice ended well
--     Lacks tasks end            an evaluation faulted on some node, or memory was wanted
--     HasLost tasks end          a node's link was lost, or failed, or memory was wanted
use Rattle.std.specs.Prelude.{◌≡◌, ℕ, ◌<◌, List, length, slice_index_or, Err}
use Rattle.hq_exec.specs.declared.end.FlowEnd.{FlowEnd}
use Rattle.hq_exec.specs.declared.end.FlowEnd.TheVariants as flow
use Rattle.hq_pump.specs.declared.end.ExchangeEnd.TheVariants as exchange
use Rattle.hq_dispatch.specs.Parcels.{bytes_at, parcel_at}
use Rattle.hq_dispatch.specs.declared.end.QueryEnd.{QueryEnd}
use Rattle.hq_dispatch.specs.declared.end.QueryEnd.TheVariants as end
use Rattle.hq_dispatch.specs.declared.parcels.Parcels.{Parcels}
use Rattle.hq_dispatch.specs.declared.task.Task.{Task}

-- a task has the bench and the rows that it had
pub record HasSameHead {S H L : Type 0} (old new : Task S H L) : Type 0 where
  pub bench : new.bench ≡ old.bench
  pub incoming : new.incoming ≡ old.incoming

-- and so each of them
pub record AreSameHeads {S H L : Type 0} (old new : List (Task S H L)) : Type 0 where
  pub count : length new ≡ length old
  pub each : (n : ℕ) (d : Task S H L) → HasSameHead (slice_index_or old n d) (slice_index_or new n d)

-- the rows that each node sends
pub record AreTaken {S H L : Type 0} (tasks : List (Task S H L)) (parcels : List Parcels) : Type 0 where
  pub count : length parcels ≡ length tasks
  pub each : (n : ℕ) (d : Task S H L) → n < length tasks → (k : ℕ) → parcel_at parcels n k ≡ bytes_at (slice_index_or tasks n d).parcels.lists.items k

-- each node's slice ended well
abbrev pub AreDone : {S H L : Type 0} → List (Task S H L) → Type 0
AreDone {S} {H} {L} tasks = (n : ℕ) (d : Task S H L) → n < length tasks → (slice_index_or tasks n d).end ≡ flow.Done

-- a slice without a fault from outside ended without rows
abbrev pub IsLack : FlowEnd → QueryEnd → Type 0
IsLack e end.Numeric = e ≡ flow.Numeric
IsLack e end.NoMemory = Unit {0}
IsLack e _ = ⊥

-- an evaluation faulted on some node, or memory was wanted
abbrev pub Lacks : {S H L : Type 0} → List (Task S H L) → QueryEnd → Type 0
Lacks {S} {H} {L} tasks end.Numeric = (n : ℕ) × (n < length tasks) × ((d : Task S H L) → (slice_index_or tasks n d).end ≡ flow.Numeric)
Lacks tasks end.NoMemory = Unit {0}
Lacks tasks _ = ⊥

-- a node's link was lost, or failed, or memory was wanted
abbrev pub HasLost : {S H L : Type 0} → List (Task S H L) → QueryEnd → Type 0
HasLost {S} {H} {L} tasks (end.LinkLost n) = (n < length tasks) × ((d : Task S H L) → (seq : ℕ) × (troubles : ℕ) × ((slice_index_or tasks n d).got ≡ Err (exchange.LinkLost seq troubles)))
HasLost {S} {H} {L} tasks (end.LinkFailed n) = (n < length tasks) × ((d : Task S H L) → (slice_index_or tasks n d).got ≡ Err exchange.LinkFailed)
HasLost tasks end.NoMemory = Unit {0}
HasLost tasks _ = ⊥
