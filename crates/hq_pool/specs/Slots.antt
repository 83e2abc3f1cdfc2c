-- The places of a pool's lanes.
--     places slots    where each lane is
use Rattle.std.specs.Prelude.{List, map}
use Rattle.hq_log.specs.declared.place.Place.{Place}
use Rattle.hq_log.specs.declared.place.Place.TheVariants as place
use Rattle.hq_pool.specs.declared.slot.Slot.{Slot}
use Rattle.hq_pool.specs.declared.slot.Slot.TheVariants.{Unborn, Clean, Dirty, Out, Sweeping}

-- where a lane is
abbrev pub place_of : {T : Type 0} → Slot T → Place
place_of Unborn = place.Unborn
place_of (Clean value) = place.Clean
place_of (Dirty value) = place.Dirty
place_of (Out k) = place.Out k
place_of (Sweeping k) = place.Sweeping k

-- where each lane is
abbrev pub places : {T : Type 0} → List (Slot T) → List Place
places slots = map place_of slots
