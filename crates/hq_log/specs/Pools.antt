-- The places of a table's lanes, as the log leaves them.
--     places_after t places k kind    the places of table t after an entry by session k
--     pool log t                      the 64 places of table t
use Rattle.std.specs.Prelude.{ℕ, Bool, List, slice_set, replicate, map, fold, ◌==◌, if◌then◌else◌}
use Rattle.hq_value.specs.declared.entry.Entry.{Entry}
use Rattle.hq_value.specs.declared.entry.EntryKind.{EntryKind}
use Rattle.hq_value.specs.declared.entry.EntryKind.TheVariants as entry
use Rattle.hq_log.specs.declared.place.Place.{Place}
use Rattle.hq_log.specs.declared.place.Place.TheVariants.{Unborn, Clean, Dirty, Out, Sweeping}
use Rattle.hq_log.specs.Places.{is_out_to}

-- no lane of the table was lent yet
abbrev pub unborn_places : List Place
unborn_places = replicate 64 Unborn

-- a lane that comes home
abbrev pub home : Bool → Place
home clean = if clean then Clean else Dirty

-- a place after session k has committed
abbrev pub committed : ℕ → Place → Place
committed k place = if is_out_to k place then Clean else place

-- a place after a restart
abbrev pub restarted : Place → Place
restarted Unborn = Unborn
restarted Clean = Clean
restarted Dirty = Clean
restarted (Out j) = Clean
restarted (Sweeping j) = Clean

-- the places of table t after an entry by session k
abbrev pub places_after : ℕ → List Place → ℕ → EntryKind → List Place
places_after t places k (entry.Lend u n) = if t == u then slice_set places n (Out k) else places
places_after t places k (entry.Sweep u n) = if t == u then slice_set places n (Sweeping k) else places
places_after t places k (entry.Adopt u n) = if t == u then slice_set places n (Out k) else places
places_after t places k (entry.Back u n clean) = if t == u then slice_set places n (home clean) else places
places_after t places k entry.Commit = map (committed k) places
places_after t places k entry.Look = places
places_after t places k entry.Create = places
places_after t places k (entry.Full u) = places
places_after t places k entry.Idle = places
places_after t places k (entry.Mark node up) = places
places_after t places k entry.Alter = places
places_after t places k entry.Restart = map restarted places

-- the 64 places of table t
abbrev pub pool : List Entry → ℕ → List Place
pool log t = fold (λ places e. places_after t places e.session e.kind) unborn_places log
