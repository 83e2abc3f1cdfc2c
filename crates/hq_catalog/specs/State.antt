-- A catalogue as contracts see it.
--     table_in tables t            table t, or one of which no lane was lent
--     places_in tables t           where the lanes of table t are
--     seal_of tables file          the seal of a file, where it has one
--     change_of tables file        the place behind that of the last Commit that changed the file, or 0
use Rattle.std.specs.Prelude.{ℕ, Bool, List, [], Option, replicate, slice_index_or}
use Rattle.hq_value.specs.declared.entry.Entry.{Entry}
use Rattle.hq_value.specs.declared.entry.FileId.{FileId}
use Rattle.hq_value.specs.Tables.{Definition}
use Rattle.hq_log.specs.declared.place.Place.{Place}
use Rattle.hq_store.specs.FileStep.{SealState}
use Rattle.hq_lane.specs.Lanes.{LaneState}
use Rattle.hq_pool.specs.declared.slot.Slot.{Slot}
use Rattle.hq_pool.specs.declared.slot.Slot.TheVariants as slot
use Rattle.hq_pool.specs.Slots.{places}
use Rattle.hq_snap.specs.Snaps.{seal_in, change_in}
use Rattle.hq_catalog.specs.declared.kept.Change.{Change}
use Rattle.hq_catalog.specs.declared.kept.Grown.{Grown}
use Rattle.hq_catalog.specs.Files.{no_table}

-- a table's number and definition, its 64 lanes, their committed seals, and when each file changed
pub record TableState : Type 0 where
  pub number : ℕ
  pub def : Definition
  pub slots : List (Slot LaneState)
  pub seals : List (List (Option SealState))
  pub changed : List (List ℕ)

-- the marks of the nodes, the tables, the log, and what its entries left
pub record CatState : Type 0 where
  pub marks : List Bool
  pub tables : List TableState
  pub log : List Entry
  pub changes : List Change
  pub grown : List Grown

-- no lane was lent yet
unfoldable pub no_slots : List (Slot LaneState)
no_slots = replicate 64 slot.Unborn

-- a table of which no lane was lent
abbrev pub unmade : TableState
unmade = record { number = 0; def = no_table; slots = no_slots; seals = []; changed = [] }

-- table t
abbrev pub table_in : List TableState → ℕ → TableState
table_in tables t = slice_index_or tables t unmade

-- where the lanes of table t are
abbrev pub places_in : List TableState → ℕ → List Place
places_in tables t = places (table_in tables t).slots

-- the seal of a file, where it has one
abbrev pub seal_of : List TableState → FileId → Option SealState
seal_of tables file = seal_in (table_in tables file.table).seals file.lane file.bucket

-- the place behind that of the last Commit that changed the file, or 0
abbrev pub change_of : List TableState → FileId → ℕ
change_of tables file = change_in (table_in tables file.table).changed file.lane file.bucket
