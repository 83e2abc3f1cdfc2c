-- What a pool lends.
--     LendsTo k old lent new     what session k gets, and what becomes of the lanes
--     SweepsAny k old lane new   the same where it asks for a lane with a tail
--     entry_of t lent            the entry of an answer of table t
use Rattle.std.specs.Prelude.{◌≡◌, ℕ, List, Option, Some, None, position, slice_get, slice_set}
use Rattle.hq_value.specs.declared.entry.EntryKind.{EntryKind}
use Rattle.hq_value.specs.declared.entry.EntryKind.TheVariants as entry
use Rattle.hq_log.specs.declared.place.Next.{Next}
use Rattle.hq_log.specs.declared.place.Next.TheVariants as which
use Rattle.hq_log.specs.Places.{is_dirty, next_place}
use Rattle.hq_pool.specs.declared.slot.Slot.{Slot}
use Rattle.hq_pool.specs.declared.slot.Slot.TheVariants.{Unborn, Clean, Dirty, Out, Sweeping}
use Rattle.hq_pool.specs.declared.lent.Lent.{Lent}
use Rattle.hq_pool.specs.declared.lent.Lent.TheVariants as lent
use Rattle.hq_pool.specs.Slots.{places}

-- the lane that is next goes out to session k with the value that lay there, to be swept where it has a tail
abbrev pub LendsNext : {T : Type 0} → ℕ → List (Slot T) → Next → Lent T → List (Slot T) → Type 0
LendsNext {T} k old (which.Clean n) answer new = (value : T) × (slice_get old n ≡ Some (Clean value)) × (answer ≡ lent.Clean n value) × (new ≡ slice_set old n (Out k))
LendsNext {T} k old (which.Dirty n) answer new = (value : T) × (slice_get old n ≡ Some (Dirty value)) × (answer ≡ lent.Sweep n value) × (new ≡ slice_set old n (Sweeping k))
LendsNext k old (which.Unborn n) answer new = (slice_get old n ≡ Some Unborn) × (answer ≡ lent.Fresh n) × (new ≡ slice_set old n (Out k))
LendsNext k old which.AllOut answer new = (answer ≡ lent.AllOut 64) × (new ≡ old)

-- session k is lent the lane that is next
abbrev pub LendsTo : {T : Type 0} → ℕ → List (Slot T) → Lent T → List (Slot T) → Type 0
LendsTo k old answer new = LendsNext k old (next_place (places old)) answer new

-- the lane with a tail goes out to session k, to be swept, with the value that lay there
abbrev pub SweepsLane : {T : Type 0} → ℕ → List (Slot T) → Option ℕ → Option (ℕ × T) → List (Slot T) → Type 0
SweepsLane {T} k old (Some n) lane new = (value : T) × (slice_get old n ≡ Some (Dirty value)) × (lane ≡ Some (n, value)) × (new ≡ slice_set old n (Sweeping k))
SweepsLane k old None lane new = (lane ≡ None) × (new ≡ old)

-- session k gets the lowest lane with a tail, to be swept
abbrev pub SweepsAny : {T : Type 0} → ℕ → List (Slot T) → Option (ℕ × T) → List (Slot T) → Type 0
SweepsAny k old lane new = SweepsLane k old (position is_dirty (places old)) lane new

-- the entry of an answer of table t
abbrev pub entry_of : {T : Type 0} → ℕ → Lent T → EntryKind
entry_of t (lent.Clean n value) = entry.Lend t n
entry_of t (lent.Sweep n value) = entry.Sweep t n
entry_of t (lent.Fresh n) = entry.Lend t n
entry_of t (lent.AllOut out) = entry.Full t
