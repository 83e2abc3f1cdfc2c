-- What holds of the parts that a catalogue is made of.
--     new_table number def         a table of which no lane was lent
--     IsCatalogue told c           log, lanes, seals and deposits belong together
--     owed tables                  how many entries the lanes that are out may still add to the log
--     IsBooks told b               the same of the books, and there is room for what is owed
use Rattle.std.specs.Prelude.{◌≡◌, ℕ, ◌+◌, ◌*◌, ◌<◌, ◌≤◌, Bool, false, List, [], position, slice_get, slice_set, Option, Some, None, IsTrue, length, map, replicate, slice_index_or, sum_by, vec_len, vec_capacity, if◌then◌else◌}
use Rattle.std.specs.List.{AllByRecursion, list_any}
use Rattle.hq_value.specs.declared.entry.Entry.{Entry}
use Rattle.hq_value.specs.declared.entry.EntryKind.{EntryKind}
use Rattle.hq_value.specs.declared.entry.EntryKind.TheVariants as entry
use Rattle.hq_value.specs.Tables.{Definition}
use Rattle.hq_log.specs.Places.{is_dirty}
use Rattle.hq_log.specs.Pools.{pool}
use Rattle.hq_log.specs.Marks.{marks}
use Rattle.hq_log.specs.Legal.{IsLegal, HasNoDirty}
use Rattle.hq_store.specs.FileStep.{SealState}
use Rattle.hq_lane.specs.Lanes.{LaneState, id_of, file_of, AreClean, HaveNoSeal, are_clean}
use Rattle.hq_lane.specs.BucketFiles.{base_bytes}
use Rattle.hq_history.specs.declared.noted.Noted.{Noted}
use Rattle.hq_history.specs.Deposits.{tables_left, IsHistory}
use Rattle.hq_pool.specs.declared.lent.Lent.{Lent}
use Rattle.hq_pool.specs.declared.lent.Lent.TheVariants as lent
use Rattle.hq_pool.specs.declared.slot.Slot.{Slot}
use Rattle.hq_pool.specs.declared.slot.Slot.TheVariants as slot
use Rattle.hq_snap.specs.Snaps.{seal_in, seal_len, seal_bytes, lane_in, changes_in}
use Rattle.hq_catalog.specs.declared.ask.Answer.{Answer}
use Rattle.hq_catalog.specs.declared.ask.Answer.TheVariants as answer
use Rattle.hq_catalog.specs.declared.kept.Change.{Change}
use Rattle.hq_catalog.specs.declared.kept.Change.TheVariants as change
use Rattle.hq_catalog.specs.declared.kept.Grown.{Grown}
use Rattle.hq_catalog.specs.declared.books.Books.{Books}
use Rattle.hq_catalog.specs.Files.{last_change}
use Rattle.hq_catalog.specs.Lanes.{fresh_lane}
use Rattle.hq_catalog.specs.State.{TableState, CatState, no_slots, table_in, places_in, seal_of, change_of}
use Rattle.hq_catalog.specs.History.{history}
use Rattle.hq_catalog.specs.Stands.{HasSeal, AreOwnSteps}

-- no file of a table has a seal, and each lane has a place for each
unfoldable pub no_seals : List (List (Option SealState))
no_seals = replicate 64 (replicate 16 None)

-- no file of a table has changed
unfoldable pub no_changes : List (List ℕ)
no_changes = replicate 64 (replicate 16 0)

-- a table of which no lane was lent
abbrev pub new_table : ℕ → Definition → TableState
new_table number def = record { number = number; def = def; slots = no_slots; seals = no_seals; changed = no_changes }

abbrev pub slot_at : List (Slot LaneState) → ℕ → Slot LaneState
slot_at slots n = slice_index_or slots n slot.Unborn

-- a lane at home
abbrev pub home_slot : LaneState → Slot LaneState
home_slot l = if are_clean l.files then slot.Clean l else slot.Dirty l

-- lane n of table t, which begins with the bytes under these seals and has no other seal
pub record IsOwn (told : Bool) (t n : ℕ) (seals : List (List (Option SealState))) (l : LaneState) : Type 0 where
  pub table : l.table ≡ t
  pub number : l.number ≡ n
  pub base : (b : ℕ) → b < 16 → (file_of l.files b).base ≡ seal_len (seal_in seals n b)
  pub bytes : IsTrue told → (b : ℕ) → b < 16 → base_bytes (file_of l.files b) ≡ seal_bytes (seal_in seals n b)
  pub no_seal : HaveNoSeal l.files

-- the same where it has just these bytes
pub record IsOwnClean (told : Bool) (t n : ℕ) (seals : List (List (Option SealState))) (l : LaneState) : Type 0 where
  pub own : IsOwn told t n seals l
  pub clean : AreClean l.files

-- what holds of lane n of table t
abbrev pub IsAtHome : Bool → ℕ → ℕ → List (List (Option SealState)) → Slot LaneState → Type 0
IsAtHome told t n seals slot.Unborn = (b : ℕ) → seal_in seals n b ≡ None
IsAtHome told t n seals (slot.Clean l) = IsOwnClean told t n seals l
IsAtHome told t n seals (slot.Dirty l) = IsOwn told t n seals l
IsAtHome told t n seals (slot.Out k) = Unit {0}
IsAtHome told t n seals (slot.Sweeping k) = Unit {0}

-- what holds of table t: 64 lanes with 16 files each, and those at home begin with the bytes under their seals
pub record IsTable (told : Bool) (t : ℕ) (x : TableState) : Type 0 where
  pub number : x.number ≡ t
  pub slots : length x.slots ≡ 64
  pub seals : length x.seals ≡ 64
  pub rows : (n : ℕ) → n < 64 → length (lane_in x.seals n) ≡ 16
  pub changed : length x.changed ≡ 64
  pub places : (n : ℕ) → n < 64 → length (changes_in x.changed n) ≡ 16
  pub homes : (n : ℕ) → n < 64 → IsAtHome told t n x.seals (slot_at x.slots n)

-- the place of the entry that left it
abbrev pub place_of : Change → ℕ
place_of (change.Made place def) = place
place_of (change.Added place table column) = place

-- a Commit before place m left it, and where bytes are told they lie under today's seal
pub record IsPast (told : Bool) (tables : List TableState) (m : ℕ) (g : Grown) : Type 0 where
  pub past : g.place < m
  pub under : IsTrue told → g.after ≤ length (seal_bytes (seal_of tables g.file))

-- log, lanes, seals and deposits belong together
pub record IsCatalogue (told : Bool) (c : CatState) : Type 0 where
  pub few : length c.tables ≤ 64
  pub legal : IsLegal (length c.marks) c.log
  pub deposits : IsHistory told (history told c)
  pub own : AreOwnSteps told [] (history told c)
  pub marks : c.marks ≡ marks (length c.marks) c.log
  pub definitions : map (λ (t : TableState). t.def) c.tables ≡ tables_left (history told c)
  pub places : (t : ℕ) → places_in c.tables t ≡ pool c.log t
  pub tables : (t : ℕ) → t < length c.tables → IsTable told t (table_in c.tables t)
  pub seals : (t n b : ℕ) → HasSeal told (history told c) (id_of t n b) (seal_of c.tables (id_of t n b))
  pub changed : (t n b : ℕ) → change_of c.tables (id_of t n b) ≡ last_change (history told c) (id_of t n b)
  pub changes : AllByRecursion (λ (x : Change). place_of x < length c.log) c.changes
  pub grown : AllByRecursion (IsPast told c.tables (length c.log)) c.grown

-- the entries that a lane may still add: its Back or Commit, and before that its Adopt
abbrev pub owes : Slot LaneState → ℕ
owes slot.Unborn = 0
owes (slot.Clean l) = 0
owes (slot.Dirty l) = 0
owes (slot.Out k) = 1
owes (slot.Sweeping k) = 2

abbrev pub owed_by : TableState → ℕ
owed_by t = sum_by owes t.slots

-- the entries that the lanes that are out may still add to the log
abbrev pub owed : List TableState → ℕ
owed tables = sum_by owed_by tables

module _ {F Z : Type 0} where
  -- the books as a catalogue
  abbrev pub cat_of : Books F Z → CatState
  cat_of b = record { marks = b.marks; tables = b.tables.items; log = b.log.items; changes = b.changes.items; grown = b.grown.items }

  -- the books are those of a catalogue, the names are those of the tables, and there is room for what is owed
  pub record IsBooks (told : Bool) (b : Books F Z) : Type 0 where
    pub cat : IsCatalogue told (cat_of b)
    pub names : b.names.keys ≡ map (λ (t : TableState). t.def.name) b.tables.items
    pub room : owed b.tables.items + vec_len b.log ≤ vec_capacity b.log
    pub grown_room : 16 * owed b.tables.items + vec_len b.grown ≤ vec_capacity b.grown

  -- what is lent, as an answer of table t
  abbrev pub answer_of : ℕ → Lent LaneState → Answer F Z
  answer_of t (lent.Clean n l) = answer.Clean l
  answer_of t (lent.Sweep n l) = answer.Sweep l
  answer_of t (lent.Fresh n) = answer.Fresh (fresh_lane t n)
  answer_of t (lent.AllOut out) = answer.AllOut out

  -- the history of the books
  abbrev pub told_by : Bool → Books F Z → List Noted
  told_by told b = history told (cat_of b)

  -- there is room for an entry, a change, and all that lanes that are out may add
  pub record HasRoom (b : Books F Z) : Type 0 where
    pub entries : vec_len b.log + 8200 ≤ vec_capacity b.log
    pub one_change : vec_len b.changes < vec_capacity b.changes
    pub growths : vec_len b.grown + 131200 ≤ vec_capacity b.grown

-- an entry of this kind changes nothing but the log
abbrev pub IsStill : List Entry → EntryKind → Type 0
IsStill log entry.Look = Unit {0}
IsStill log entry.Create = Unit {0}
IsStill log entry.Alter = Unit {0}
IsStill log entry.Idle = (t : ℕ) → HasNoDirty log t
IsStill log _ = ⊥

-- the lane was the lowest with a tail of the lowest table that has one, and goes out to session k to be swept
pub record SweepsFirst (k : ℕ) (old : List TableState) (l : LaneState) (new : List TableState) : Type 0 where
  pub t : ℕ
  pub n : ℕ
  pub made : t < length old
  pub before : (u : ℕ) → u < t → list_any is_dirty (places_in old u) ≡ false
  pub first : position is_dirty (places_in old t) ≡ Some n
  pub home : slice_get (table_in old t).slots n ≡ Some (slot.Dirty l)
  pub after : new ≡ slice_set old t (record (table_in old t) { slots = slice_set (table_in old t).slots n (slot.Sweeping k) })

abbrev pub SweptFirst : ℕ → List TableState → Option LaneState → List TableState → Type 0
SweptFirst k old None new = (new ≡ old) × ((u : ℕ) → u < length old → list_any is_dirty (places_in old u) ≡ false)
SweptFirst k old (Some l) new = SweepsFirst k old l new
