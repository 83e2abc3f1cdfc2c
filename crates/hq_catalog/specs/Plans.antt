-- An ask in two parts: a plan, for which all memory is there, and the step that it leads to.
--     Leads told history plan ask      the plan is one for this ask
--     IsKind history plan kind         the entry that it leaves is of this kind
--     left_by told plan                what its entry leaves for good
--     Fits files seals k books plan    session k's plan may be settled by these books
--     ReadyState                       a catalogue that has all that an ask wants, as contracts see it
use Rattle.std.specs.Prelude.{◌≡◌, ℕ, ◌<◌, Bool, false, ◌&&◌, List, Some, None, length, position, replicate, vec_len, vec_capacity}
use Rattle.indexmap.specs.IndexSet.{spare}
use Rattle.hq_value.specs.declared.entry.EntryKind.{EntryKind}
use Rattle.hq_value.specs.declared.entry.EntryKind.TheVariants as entry
use Rattle.hq_value.specs.declared.table.Column.{Column}
use Rattle.hq_value.specs.declared.table.ColumnFault.TheVariants as fault
use Rattle.hq_value.specs.Tables.{Definition, column_refusal, with_column}
use Rattle.hq_log.specs.declared.place.Next.{Next}
use Rattle.hq_log.specs.declared.place.Next.TheVariants as which
use Rattle.std.specs.List.{list_any}
use Rattle.hq_log.specs.Places.{is_dirty, next_place}
use Rattle.hq_log.specs.Legal.{IsFirstDirty, HasNoDirty}
use Rattle.hq_lane.specs.Lanes.{LaneState, are_clean}
use Rattle.hq_history.specs.declared.noted.Noted.{Noted}
use Rattle.hq_history.specs.declared.noted.Deposit.{Deposit}
use Rattle.hq_history.specs.declared.noted.Deposit.TheVariants.{Nothing, Made, Added, Published}
use Rattle.hq_history.specs.History.{entries_of}
use Rattle.hq_history.specs.Deposits.{tables_left, MayMake}
use Rattle.hq_pool.specs.declared.slot.Slot.TheVariants as slot
use Rattle.hq_catalog.specs.declared.ask.Ask.{Ask}
use Rattle.hq_catalog.specs.declared.ask.Ask.TheVariants as ask
use Rattle.hq_catalog.specs.declared.books.Books.{Books}
use Rattle.hq_catalog.specs.declared.plan.Plan.{Plan}
use Rattle.hq_catalog.specs.declared.plan.Plan.TheVariants as plan
use Rattle.hq_catalog.specs.Asks.{MayLend, MayAdopt, MayCommit, MayBack}
use Rattle.hq_catalog.specs.Files.{def_in, table_named}
use Rattle.hq_catalog.specs.Lanes.{growths_of}
use Rattle.hq_catalog.specs.Looks.{AreSeen}
use Rattle.hq_catalog.specs.Causes.{IsThere, AreEnough}
use Rattle.hq_snap.specs.Snaps.{TableSnapState}
use Rattle.hq_catalog.specs.State.{CatState, TableState, places_in, table_in}
use Rattle.hq_catalog.specs.CatStep.{places_of}
use Rattle.hq_catalog.specs.Kept.{HasRoom, told_by}

-- which ask a plan is for
module _ {F Z : Type 0} (told : Bool) (h : List Noted) where
  abbrev pub AsksLook : List TableSnapState → Ask F Z → Type 0
  AsksLook snaps (ask.Look scope have) = AreSeen told h scope have.items snaps
  AsksLook snaps _ = ⊥

  abbrev pub AsksTable : Definition → Ask F Z → Type 0
  AsksTable made (ask.Create def) = made ≡ def
  AsksTable made _ = ⊥

  abbrev pub AsksColumn : ℕ → Column → Ask F Z → Type 0
  AsksColumn t added (ask.Alter name column) = (added ≡ column) × (table_named name (tables_left h) ≡ Some t)
  AsksColumn t added _ = ⊥

  abbrev pub NamesNoTable : Ask F Z → Type 0
  NamesNoTable (ask.Alter name column) = table_named name (tables_left h) ≡ None
  NamesNoTable _ = ⊥

  abbrev pub AsksTooWide : ℕ → Ask F Z → Type 0
  AsksTooWide columns (ask.Alter name column) =
      (t : ℕ) × (table_named name (tables_left h) ≡ Some t) × (column_refusal (def_in (tables_left h) t) column ≡ Some fault.TooManyColumns)
      × (columns ≡ length (def_in (tables_left h) t).columns)
  AsksTooWide columns _ = ⊥

  abbrev pub HasColumn : Ask F Z → Type 0
  HasColumn (ask.Alter name column) = (t : ℕ) × (table_named name (tables_left h) ≡ Some t) × (column_refusal (def_in (tables_left h) t) column ≡ Some fault.ColumnThere)
  HasColumn _ = ⊥

  abbrev pub AsksLane : ℕ → Ask F Z → Type 0
  AsksLane u (ask.Lend t) = u ≡ t
  AsksLane u _ = ⊥

  abbrev pub AsksAdopt : LaneState → Ask F Z → Type 0
  AsksAdopt o (ask.Adopt l) = o ≡ l
  AsksAdopt o _ = ⊥

  abbrev pub AsksCommit : List LaneState → Ask F Z → Type 0
  AsksCommit others (ask.Commit lanes) = others ≡ lanes.items
  AsksCommit others _ = ⊥

  abbrev pub AsksBack : LaneState → Ask F Z → Type 0
  AsksBack o (ask.Back l) = o ≡ l
  AsksBack o _ = ⊥

  abbrev pub AsksSweep : Ask F Z → Type 0
  AsksSweep ask.SweepAny = Unit {0}
  AsksSweep _ = ⊥

  abbrev pub AsksMark : ℕ → Bool → Ask F Z → Type 0
  AsksMark other u (ask.Mark node up) = (other ≡ node) × (u ≡ up)
  AsksMark other u _ = ⊥

  -- the plan is one for this ask
  abbrev pub Leads : Plan F Z → Ask F Z → Type 0
  Leads (plan.Look tables) a = AsksLook tables.items a
  Leads (plan.Make name made table) a = AsksTable made a
  Leads plan.Exists a = IsThere h a
  Leads plan.TooManyTables a = AreEnough h a
  Leads (plan.Add t def added) a = AsksColumn t added a
  Leads plan.NoTable a = NamesNoTable a
  Leads (plan.TooManyColumns columns) a = AsksTooWide columns a
  Leads plan.ColumnThere a = HasColumn a
  Leads (plan.Lend u) a = AsksLane u a
  Leads (plan.Adopt o) a = AsksAdopt o a
  Leads (plan.Commit others) a = AsksCommit others.items a
  Leads (plan.Back o) a = AsksBack o a
  Leads plan.SweepAny a = AsksSweep a
  Leads (plan.Mark other u) a = AsksMark other u a

-- the plan is one for a table's making
abbrev pub LeadsCreate : {F Z : Type 0} → Bool → List Noted → Definition → Plan F Z → Type 0
LeadsCreate {F} {Z} told h def one = Leads {F = F} {Z = Z} told h one (ask.Create def)

-- the plan is one for a column's adding
abbrev pub LeadsAlter : {F Z : Type 0} → Bool → List Noted → List ℕ → Column → Plan F Z → Type 0
LeadsAlter {F} {Z} told h name column one = Leads {F = F} {Z = Z} told h one (ask.Alter name column)

abbrev pub kind_next : ℕ → Next → EntryKind
kind_next t (which.Clean n) = entry.Lend t n
kind_next t (which.Dirty n) = entry.Sweep t n
kind_next t (which.Unborn n) = entry.Lend t n
kind_next t which.AllOut = entry.Full t

-- the lowest lane with a tail is swept, or there is none
abbrev pub IsSweep : List Noted → EntryKind → Type 0
IsSweep h (entry.Sweep t n) = IsFirstDirty (entries_of h) t n
IsSweep h entry.Idle = (t : ℕ) → HasNoDirty (entries_of h) t
IsSweep h _ = ⊥

-- the entry that it leaves is of this kind
abbrev pub IsKind : {F Z : Type 0} → List Noted → Plan F Z → EntryKind → Type 0
IsKind h (plan.Look tables) kind = kind ≡ entry.Look
IsKind h (plan.Make name def table) kind = kind ≡ entry.Create
IsKind h plan.Exists kind = kind ≡ entry.Create
IsKind h plan.TooManyTables kind = kind ≡ entry.Create
IsKind h (plan.Add t def column) kind = kind ≡ entry.Alter
IsKind h plan.NoTable kind = kind ≡ entry.Alter
IsKind h (plan.TooManyColumns columns) kind = kind ≡ entry.Alter
IsKind h plan.ColumnThere kind = kind ≡ entry.Alter
IsKind h (plan.Lend t) kind = kind ≡ kind_next t (next_place (places_of h t))
IsKind h (plan.Adopt l) kind = kind ≡ entry.Adopt l.table l.number
IsKind h (plan.Commit lanes) kind = kind ≡ entry.Commit
IsKind h (plan.Back l) kind = kind ≡ entry.Back l.table l.number (are_clean l.files)
IsKind h plan.SweepAny kind = IsSweep h kind
IsKind h (plan.Mark node up) kind = kind ≡ entry.Mark node up

-- what its entry leaves for good
abbrev pub left_by : {F Z : Type 0} → Bool → Plan F Z → Deposit
left_by told (plan.Make name def table) = Made def
left_by told (plan.Add t def column) = Added t column
left_by told (plan.Commit lanes) = Published (growths_of told lanes.items)
left_by told _ = Nothing

-- a table of which no lane was lent
pub record IsMade (number : ℕ) (def : Definition) (x : TableState) : Type 0 where
  pub has_number : x.number ≡ number
  pub has_def : x.def ≡ def
  pub slots : x.slots ≡ replicate 64 slot.Unborn
  pub seals : x.seals ≡ replicate 64 (replicate 16 None)
  pub changed : x.changed ≡ replicate 64 (replicate 16 0)

module _ {F Z : Type 0} where
  -- the table may be made, and there is room for it
  pub record FitsMake (told : Bool) (b : Books F Z) (name : List ℕ) (def : Definition) (x : TableState) : Type 0 where
    pub room : HasRoom b
    pub tables : vec_len b.tables < vec_capacity b.tables
    pub names : 0 < spare b.names
    pub name_is : name ≡ def.name
    pub made : IsMade (length b.tables.items) def x
    pub may : MayMake (tables_left (told_by told b)) def

  -- the table is there, and its definition may have the column too
  pub record FitsAdd (b : Books F Z) (t : ℕ) (def : Definition) (column : Column) : Type 0 where
    pub room : HasRoom b
    pub made : t < length b.tables.items
    pub def_is : def ≡ with_column (table_in b.tables.items t).def column
    pub may : column_refusal (table_in b.tables.items t).def column ≡ None

  -- session k's plan may be settled by these books
  abbrev pub Fits : Bool → Bool → ℕ → Books F Z → Plan F Z → Type 0
  Fits files seals k b (plan.Make name def table) = FitsMake (files && seals) b name def table
  Fits files seals k b (plan.Add t def column) = FitsAdd b t def column
  Fits files seals k b (plan.Lend t) = HasRoom b × MayLend k (told_by (files && seals) b) t
  Fits files seals k b (plan.Adopt l) = MayAdopt (files && seals) k (told_by (files && seals) b) l
  Fits files seals k b (plan.Commit lanes) = MayCommit files seals k (told_by (files && seals) b) lanes.items
  Fits files seals k b (plan.Back l) = MayBack (files && seals) k (told_by (files && seals) b) l
  Fits files seals k b (plan.Mark node up) = HasRoom b × (node < length b.marks)
  Fits files seals k b _ = HasRoom b

-- the lowest lane with a tail of the lowest table that has one is swept, or no table has one
abbrev pub IsSweepOf : List TableState → EntryKind → Type 0
IsSweepOf tables (entry.Sweep t n) = ((u : ℕ) → u < t → list_any is_dirty (places_in tables u) ≡ false) × (position is_dirty (places_in tables t) ≡ Some n)
IsSweepOf tables entry.Idle = (u : ℕ) → u < length tables → list_any is_dirty (places_in tables u) ≡ false
IsSweepOf tables _ = ⊥

-- a catalogue that has all that an ask wants
pub record ReadyState (F Z : Type 0) : Type 0 where
  pub cat : CatState
  pub session : ℕ
  pub statement : ℕ
  pub plan : Plan F Z
