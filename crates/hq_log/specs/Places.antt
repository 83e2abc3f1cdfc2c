-- The place of a lane, and which one is lent next.
--     is_out place          a session has the lane
--     is_held_by k place    session k has it
--     passes_at test places n    lane n is there, and its place passes the test
--     IsLowest test places n     no lane below n passes the test
--     next_place places     the place that is lent next
use Rattle.std.specs.Prelude.{◌≡◌, ℕ, ◌<◌, Bool, true, false, List, Option, Some, None, position, option_map, unwrap_or, slice_get, ◌==◌}
use Rattle.hq_log.specs.declared.place.Place.{Place}
use Rattle.hq_log.specs.declared.place.Place.TheVariants.{Unborn, Clean, Dirty, Out, Sweeping}
use Rattle.hq_log.specs.declared.place.Next.{Next}
use Rattle.hq_log.specs.declared.place.Next.TheVariants as which

abbrev pub is_unborn : Place → Bool
is_unborn Unborn = true
is_unborn Clean = false
is_unborn Dirty = false
is_unborn (Out j) = false
is_unborn (Sweeping j) = false

abbrev pub is_clean : Place → Bool
is_clean Unborn = false
is_clean Clean = true
is_clean Dirty = false
is_clean (Out j) = false
is_clean (Sweeping j) = false

abbrev pub is_dirty : Place → Bool
is_dirty Unborn = false
is_dirty Clean = false
is_dirty Dirty = true
is_dirty (Out j) = false
is_dirty (Sweeping j) = false

-- a session has the lane, to write or to sweep
abbrev pub is_out : Place → Bool
is_out Unborn = false
is_out Clean = false
is_out Dirty = false
is_out (Out j) = true
is_out (Sweeping j) = true

-- session k has the lane to write
abbrev pub is_out_to : ℕ → Place → Bool
is_out_to k Unborn = false
is_out_to k Clean = false
is_out_to k Dirty = false
is_out_to k (Out j) = k == j
is_out_to k (Sweeping j) = false

-- session k has the lane to sweep
abbrev pub is_swept_by : ℕ → Place → Bool
is_swept_by k Unborn = false
is_swept_by k Clean = false
is_swept_by k Dirty = false
is_swept_by k (Out j) = false
is_swept_by k (Sweeping j) = k == j

-- session k has the lane
abbrev pub is_held_by : ℕ → Place → Bool
is_held_by k Unborn = false
is_held_by k Clean = false
is_held_by k Dirty = false
is_held_by k (Out j) = k == j
is_held_by k (Sweeping j) = k == j

-- lane n is there, and its place passes the test
abbrev pub passes_at : (Place → Bool) → List Place → ℕ → Bool
passes_at test places n = unwrap_or (option_map test (slice_get places n)) false

-- lane n passes the test, and no lane below n does
abbrev pub IsLowest : (Place → Bool) → List Place → ℕ → Type 0
IsLowest test places n = (passes_at test places n ≡ true) × ((m : ℕ) → m < n → passes_at test places m ≡ false)

-- a clean place, else one with a tail, else one that was never lent
abbrev pub first_of : (clean dirty unborn : Option ℕ) → Next
first_of (Some n) dirty unborn = which.Clean n
first_of None (Some n) unborn = which.Dirty n
first_of None None (Some n) = which.Unborn n
first_of None None None = which.AllOut

-- the lowest clean place, else the lowest with a tail, else the lowest that was never lent
abbrev pub next_place : List Place → Next
next_place places = first_of (position is_clean places) (position is_dirty places) (position is_unborn places)
