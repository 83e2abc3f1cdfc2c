-- What holds of every catalogue.
--     Stands told c        its log is legal, and lanes, marks, definitions and seals are what its history leaves
use Rattle.std.specs.Prelude.{◌≡◌, ℕ, ◌<◌, ◌≤◌, Bool, true, false, List, [], ◌∷◌, ◌++◌, Option, Some, None, IsSome, IsTrue, length, map, slice_index_or}
use Rattle.std.specs.List.{AllByRecursion}
use Rattle.hq_value.specs.declared.entry.EntryKind.{EntryKind}
use Rattle.hq_value.specs.declared.entry.EntryKind.TheVariants as entry
use Rattle.hq_value.specs.declared.entry.FileId.{FileId}
use Rattle.hq_log.specs.declared.place.Place.TheVariants.{Out}
use Rattle.hq_log.specs.Pools.{pool}
use Rattle.hq_log.specs.Marks.{marks}
use Rattle.hq_log.specs.Legal.{IsAt, IsLegal}
use Rattle.hq_store.specs.FileStep.{SealState}
use Rattle.hq_lane.specs.Lanes.{LaneState, id_of}
use Rattle.hq_history.specs.declared.noted.Noted.{Noted}
use Rattle.hq_history.specs.declared.noted.Growth.{Growth}
use Rattle.hq_history.specs.History.{entries_of}
use Rattle.hq_history.specs.Deposits.{tables_left, growths_in, length_left, bytes_left, IsHistory}
use Rattle.hq_pool.specs.declared.slot.Slot.{Slot}
use Rattle.hq_pool.specs.declared.slot.Slot.TheVariants as slot
use Rattle.hq_snap.specs.Snaps.{seal_len, seal_bytes}
use Rattle.hq_catalog.specs.Files.{def_at, last_change, FitBytes}
use Rattle.hq_catalog.specs.Lanes.{IsGiven, IsGivenClean, fresh_lane}
use Rattle.hq_catalog.specs.State.{TableState, CatState, table_in, places_in, seal_of, change_of}
use Rattle.hq_catalog.specs.History.{history}

-- a Commit adds only to files of lanes that its session had to write, and where bytes are told they are blocks of the
-- table's first columns whose rows stand in their bucket
pub record IsOwnGrowth (told : Bool) (before : List Noted) (k : ℕ) (g : Growth) : Type 0 where
  pub lane : IsAt (entries_of before) g.file.table g.file.lane (Out k)
  pub blocks : IsTrue told → FitBytes (def_at before g.file.table) g.file.bucket g.bytes

-- whether it tells that a catalogue was opened again
abbrev pub is_restart : EntryKind → Bool
is_restart entry.Restart = true
is_restart _ = false

pub record IsOwnStep (told : Bool) (before : List Noted) (n : Noted) : Type 0 where
  pub growths : AllByRecursion (IsOwnGrowth told before n.entry.session) (growths_in n.deposit)
  pub runs : is_restart n.entry.kind ≡ false

-- each entry adds to its own lanes alone, the first behind `before`
abbrev pub AreOwnSteps : Bool → List Noted → List Noted → Type 0
AreOwnSteps told before [] = Unit {0}
AreOwnSteps told before (n ∷ ns) = IsOwnStep told before n × AreOwnSteps told (before ++ n ∷ []) ns

-- the bytes under the seal are the committed ones, and there is a seal where there are some
pub record HasSeal (told : Bool) (history : List Noted) (file : FileId) (seal : Option SealState) : Type 0 where
  pub len : seal_len seal ≡ length_left history file
  pub bytes : IsTrue told → seal_bytes seal ≡ bytes_left history file
  pub some : 0 < last_change history file → IsSome seal
  pub none : last_change history file ≡ 0 → seal ≡ None
  pub id : (z : SealState) → seal ≡ Some z → z.id ≡ file

-- what holds of a lane at home: it begins with the committed bytes, and a clean one has just those; one that was never lent has none
abbrev pub IsHome : Bool → List Noted → ℕ → ℕ → Slot LaneState → Type 0
IsHome told history t n slot.Unborn = IsGivenClean told history t n (fresh_lane t n)
IsHome told history t n (slot.Clean l) = IsGivenClean told history t n l
IsHome told history t n (slot.Dirty l) = IsGiven told history t n l
IsHome told history t n (slot.Out k) = Unit {0}
IsHome told history t n (slot.Sweeping k) = Unit {0}

-- the log is legal, and lanes, marks, definitions and seals are what the history leaves
pub record Stands (told : Bool) (c : CatState) : Type 0 where
  pub log : entries_of (history told c) ≡ c.log
  pub few : length c.tables ≤ 64
  pub legal : IsLegal (length c.marks) c.log
  pub deposits : IsHistory told (history told c)
  pub own : AreOwnSteps told [] (history told c)
  pub marks : c.marks ≡ marks (length c.marks) c.log
  pub definitions : map (λ (t : TableState). t.def) c.tables ≡ tables_left (history told c)
  pub numbers : (t : ℕ) → t < length c.tables → (table_in c.tables t).number ≡ t
  pub places : (t : ℕ) → places_in c.tables t ≡ pool c.log t
  pub homes : (t n : ℕ) → t < length c.tables → n < 64 → IsHome told (history told c) t n (slice_index_or (table_in c.tables t).slots n slot.Unborn)
  pub seals : (t n b : ℕ) → HasSeal told (history told c) (id_of t n b) (seal_of c.tables (id_of t n b))
  pub changes : (t n b : ℕ) → change_of c.tables (id_of t n b) ≡ last_change (history told c) (id_of t n b)
