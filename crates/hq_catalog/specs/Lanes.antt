-- A lane against the history of its catalogue. `told` says whether both files and seals tell their bytes.
--     IsHeld log k l             session k has the lane, to write or to sweep
--     Agrees told history l      the lane's committed lengths and bytes are those of the history
--     IsGiven told history t n l       lane n of table t as an answer gives it
--     IsGivenClean told history t n l  the same where it has just its committed bytes
--     fresh_lane t n             lane n of table t that was never lent
--     growths_of told lanes      what a Commit of the lanes adds to files: of each that has grown, the bytes behind its
--                                committed ones
use Rattle.std.specs.Prelude.{◌≡◌, ◌⊎◌, ℕ, ◌<◌, Bool, List, [], ◌∷◌, IsTrue, flat_map, nat_lt, if◌then◌else◌}
use Rattle.hq_value.specs.declared.entry.Entry.{Entry}
use Rattle.hq_log.specs.declared.place.Place.TheVariants.{Out, Sweeping}
use Rattle.hq_log.specs.Legal.{IsAt}
use Rattle.hq_lane.specs.Lanes.{LaneState, id_of, no_files, file_of, AreClean, HaveNoSeal}
use Rattle.hq_lane.specs.BucketFiles.{BucketState, base_bytes, own_bytes}
use Rattle.hq_history.specs.declared.noted.Noted.{Noted}
use Rattle.hq_history.specs.declared.noted.Growth.{Growth}
use Rattle.hq_history.specs.Deposits.{length_left, bytes_left}

-- session k has the lane to write
abbrev pub IsOut : List Entry → ℕ → LaneState → Type 0
IsOut log k l = IsAt log l.table l.number (Out k)

-- session k has the lane to sweep
abbrev pub IsSwept : List Entry → ℕ → LaneState → Type 0
IsSwept log k l = IsAt log l.table l.number (Sweeping k)

-- session k has the lane
abbrev pub IsHeld : List Entry → ℕ → LaneState → Type 0
IsHeld log k l = IsOut log k l ⊎ IsSwept log k l

-- the lane's committed lengths and bytes are those of the history
pub record Agrees (told : Bool) (history : List Noted) (l : LaneState) : Type 0 where
  pub base : (b : ℕ) → b < 16 → (file_of l.files b).base ≡ length_left history (id_of l.table l.number b)
  pub bytes : IsTrue told → (b : ℕ) → b < 16 → base_bytes (file_of l.files b) ≡ bytes_left history (id_of l.table l.number b)

-- lane n of table t as an answer gives it
pub record IsGiven (told : Bool) (history : List Noted) (t n : ℕ) (l : LaneState) : Type 0 where
  pub table : l.table ≡ t
  pub number : l.number ≡ n
  pub agrees : Agrees told history l
  pub no_seal : HaveNoSeal l.files

-- the same where it has just its committed bytes
pub record IsGivenClean (told : Bool) (history : List Noted) (t n : ℕ) (l : LaneState) : Type 0 where
  pub given : IsGiven told history t n l
  pub clean : AreClean l.files

-- a lane that was never lent
abbrev pub fresh_lane : ℕ → ℕ → LaneState
fresh_lane t n = record { table = t; number = n; files = no_files t n }

-- what a file has grown by
abbrev pub growth_of : Bool → BucketState → Growth
growth_of told p = record { file = p.id; before = p.base; after = p.good; bytes = if told then own_bytes p else [] }

-- the same, if it has grown
abbrev pub growth_if_any : Bool → BucketState → List Growth
growth_if_any told p = if nat_lt p.base p.good then growth_of told p ∷ [] else []

-- what a lane's files have grown by
abbrev pub growths_in_lane : Bool → LaneState → List Growth
growths_in_lane told l = flat_map (growth_if_any told) l.files

-- what the lanes' files have grown by
abbrev pub growths_of : Bool → List LaneState → List Growth
growths_of told lanes = flat_map (growths_in_lane told) lanes
