-- Which entries are lawful.
--     IsLawful nodes log k kind    an entry by session k is lawful over the log before it
--     IsLegal nodes log            each entry is
use Rattle.std.specs.Prelude.{◌≡◌, ◌⊎◌, ℕ, ◌<◌, true, false, List, [], ◌∷◌, ◌++◌, Some, slice_get, position}
use Rattle.std.specs.List.{list_any, list_all}
use Rattle.hq_value.specs.declared.entry.Entry.{Entry}
use Rattle.hq_value.specs.declared.entry.EntryKind.{EntryKind}
use Rattle.hq_value.specs.declared.entry.EntryKind.TheVariants as entry
use Rattle.hq_log.specs.declared.place.Place.{Place}
use Rattle.hq_log.specs.declared.place.Place.TheVariants.{Out, Sweeping}
use Rattle.hq_log.specs.declared.place.Next.TheVariants as which
use Rattle.hq_log.specs.Places.{is_dirty, is_out, is_out_to, is_swept_by, is_held_by, next_place}
use Rattle.hq_log.specs.Pools.{pool}

-- session k has no lane of table t
abbrev pub HasNoLane : List Entry → ℕ → ℕ → Type 0
HasNoLane log k t = list_any (is_held_by k) (pool log t) ≡ false

-- no lane of table t has a tail
abbrev pub HasNoDirty : List Entry → ℕ → Type 0
HasNoDirty log t = list_any is_dirty (pool log t) ≡ false

-- lane n is the lowest with a tail, of the lowest table that has one
abbrev pub IsFirstDirty : List Entry → ℕ → ℕ → Type 0
IsFirstDirty log t n = ((u : ℕ) → u < t → HasNoDirty log u) × (position is_dirty (pool log t) ≡ Some n)

-- the place of lane n of table t
abbrev pub IsAt : List Entry → ℕ → ℕ → Place → Type 0
IsAt log t n place = slice_get (pool log t) n ≡ Some place

-- an entry by session k is lawful over the log before it
abbrev pub IsLawful : ℕ → List Entry → ℕ → EntryKind → Type 0
IsLawful nodes log k entry.Look = Unit {0}
IsLawful nodes log k entry.Create = Unit {0}
IsLawful nodes log k entry.Alter = Unit {0}
IsLawful nodes log k entry.Restart = k ≡ 0
IsLawful nodes log k (entry.Mark node up) = node < nodes
IsLawful nodes log k (entry.Lend t n) = HasNoLane log k t × ((next_place (pool log t) ≡ which.Clean n) ⊎ (next_place (pool log t) ≡ which.Unborn n))
IsLawful nodes log k (entry.Sweep t n) = (HasNoLane log k t × (next_place (pool log t) ≡ which.Dirty n)) ⊎ IsFirstDirty log t n
IsLawful nodes log k (entry.Full t) = list_all is_out (pool log t) ≡ true
IsLawful nodes log k entry.Idle = (t : ℕ) → HasNoDirty log t
IsLawful nodes log k (entry.Adopt t n) = IsAt log t n (Sweeping k)
IsLawful nodes log k entry.Commit = ((t : ℕ) × (list_any (is_out_to k) (pool log t) ≡ true)) × ((t : ℕ) → list_any (is_swept_by k) (pool log t) ≡ false)
IsLawful nodes log k (entry.Back t n clean) = IsAt log t n (Out k) ⊎ IsAt log t n (Sweeping k)

-- each entry is lawful over the ones before it, the first over those of `before`
abbrev pub AreLawful : ℕ → List Entry → List Entry → Type 0
AreLawful nodes before [] = Unit {0}
AreLawful nodes before (e ∷ es) = IsLawful nodes before e.session e.kind × AreLawful nodes (before ++ e ∷ []) es

-- each entry is lawful over the log before it
abbrev pub IsLegal : ℕ → List Entry → Type 0
IsLegal nodes log = AreLawful nodes [] log
