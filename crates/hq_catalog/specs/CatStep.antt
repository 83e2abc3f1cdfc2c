-- One answer of a catalogue, by its history before and after.
--     noted k m kind deposit             an entry of session k's statement m, with what it leaves
--     CatStep told nodes k m history ask history' answer    the answer to an ask, and what it leaves
use Rattle.std.specs.Prelude.{◌≡◌, ℕ, Bool, true, false, List, [], ◌∷◌, ◌++◌, Some, None, length}
use Rattle.hq_value.specs.declared.entry.EntryKind.{EntryKind}
use Rattle.hq_value.specs.declared.entry.EntryKind.TheVariants as entry
use Rattle.hq_value.specs.declared.table.Column.{Column}
use Rattle.hq_value.specs.declared.table.ColumnFault.TheVariants as fault
use Rattle.hq_value.specs.Tables.{Definition, column_refusal}
use Rattle.hq_log.specs.declared.place.Place.{Place}
use Rattle.hq_log.specs.declared.place.Next.{Next}
use Rattle.hq_log.specs.declared.place.Next.TheVariants as which
use Rattle.hq_log.specs.Places.{next_place}
use Rattle.hq_log.specs.Pools.{pool}
use Rattle.hq_log.specs.Marks.{marks}
use Rattle.hq_log.specs.Legal.{IsFirstDirty, HasNoDirty}
use Rattle.hq_lane.specs.Lanes.{LaneState, no_files, are_clean}
use Rattle.hq_history.specs.declared.noted.Noted.{Noted}
use Rattle.hq_history.specs.declared.noted.Deposit.{Deposit}
use Rattle.hq_history.specs.declared.noted.Deposit.TheVariants.{Nothing, Made, Added, Published}
use Rattle.hq_history.specs.History.{entries_of}
use Rattle.hq_history.specs.Deposits.{tables_left, is_new, MayMake}
use Rattle.hq_snap.specs.declared.scope.Scope.{Scope}
use Rattle.hq_snap.specs.declared.scope.Have.{Have}
use Rattle.hq_catalog.specs.declared.ask.Ask.{Ask}
use Rattle.hq_catalog.specs.declared.ask.Ask.TheVariants as ask
use Rattle.hq_catalog.specs.declared.ask.Answer.{Answer}
use Rattle.hq_catalog.specs.declared.ask.Answer.TheVariants as answer
use Rattle.hq_catalog.specs.Files.{def_in, table_named}
use Rattle.hq_catalog.specs.Lanes.{IsGiven, IsGivenClean, growths_of}
use Rattle.hq_catalog.specs.Looks.{AreSeen}

-- an entry of session k's statement m, with what it leaves
abbrev pub noted : ℕ → ℕ → EntryKind → Deposit → Noted
noted k m kind deposit = record { entry = record { session = k; statement = m; kind = kind }; deposit = deposit }

-- the history goes on by one entry
abbrev pub Notes : ℕ → ℕ → EntryKind → Deposit → List Noted → List Noted → Type 0
Notes k m kind deposit old new = new ≡ old ++ noted k m kind deposit ∷ []

-- the places of a table's lanes
abbrev pub places_of : List Noted → ℕ → List Place
places_of history t = pool (entries_of history) t

module _ {F Z : Type 0} (told : Bool) (nodes k m : ℕ) (old new : List Noted) where
  -- the marks of the nodes, the tables of the scope, and the place of the entry
  abbrev pub LookStep : Scope → List Have → Answer F Z → Type 0
  LookStep scope have (answer.Seen at marks_of tables) =
      Notes k m entry.Look Nothing old new × (at ≡ length old) × (marks_of ≡ marks nodes (entries_of old)) × AreSeen told old scope have tables.items
  LookStep scope have answer.NoMemory = new ≡ old
  LookStep scope have _ = ⊥

  -- the table is made with the next number; or a table has its name; or there are 64 others
  abbrev pub CreateStep : Definition → Answer F Z → Type 0
  CreateStep def (answer.Made t) = Notes k m entry.Create (Made def) old new × (t ≡ length (tables_left old)) × MayMake (tables_left old) def
  CreateStep def answer.Exists = Notes k m entry.Create Nothing old new × (is_new def.name (tables_left old) ≡ false)
  CreateStep def (answer.TooManyTables made) =
      Notes k m entry.Create Nothing old new × (is_new def.name (tables_left old) ≡ true) × (length (tables_left old) ≡ 64) × (made ≡ 64)
  CreateStep def answer.NoMemory = new ≡ old
  CreateStep def _ = ⊥

  -- the table of the name has the column too; or there is none of the name; or it has 64 columns; or it has one of the column's name
  abbrev pub AlterStep : List ℕ → Column → Answer F Z → Type 0
  AlterStep name column (answer.Altered t) =
      Notes k m entry.Alter (Added t column) old new × (table_named name (tables_left old) ≡ Some t) × (column_refusal (def_in (tables_left old) t) column ≡ None)
  AlterStep name column answer.NoTable = Notes k m entry.Alter Nothing old new × (table_named name (tables_left old) ≡ None)
  AlterStep name column (answer.TooManyColumns columns) =
      Notes k m entry.Alter Nothing old new
      × ((t : ℕ) × (table_named name (tables_left old) ≡ Some t) × (column_refusal (def_in (tables_left old) t) column ≡ Some fault.TooManyColumns)
      × (columns ≡ length (def_in (tables_left old) t).columns))
  AlterStep name column answer.ColumnThere =
      Notes k m entry.Alter Nothing old new
      × ((t : ℕ) × (table_named name (tables_left old) ≡ Some t) × (column_refusal (def_in (tables_left old) t) column ≡ Some fault.ColumnThere))
  AlterStep name column answer.NoMemory = new ≡ old
  AlterStep name column _ = ⊥

  -- what the lane is that is next
  abbrev pub LendsNext : ℕ → Next → Answer F Z → Type 0
  LendsNext t (which.Clean n) (answer.Clean l) = Notes k m (entry.Lend t n) Nothing old new × IsGivenClean told old t n l
  LendsNext t (which.Dirty n) (answer.Sweep l) = Notes k m (entry.Sweep t n) Nothing old new × IsGiven told old t n l
  LendsNext t (which.Unborn n) (answer.Fresh l) =
      Notes k m (entry.Lend t n) Nothing old new × IsGivenClean told old t n l × (l.files ≡ no_files t n)
  LendsNext t which.AllOut (answer.AllOut out) = Notes k m (entry.Full t) Nothing old new × (out ≡ 64)
  LendsNext t _ answer.NoMemory = new ≡ old
  LendsNext t _ _ = ⊥

  -- the lowest clean lane, else the lowest with a tail, else the lowest that was never lent
  abbrev pub LendStep : ℕ → Answer F Z → Type 0
  LendStep t answer = LendsNext t (next_place (places_of old t)) answer

  -- the lane that was swept is the session's to write
  abbrev pub AdoptStep : LaneState → Answer F Z → Type 0
  AdoptStep l (answer.Adopted same) = Notes k m (entry.Adopt l.table l.number) Nothing old new × (same ≡ l)
  AdoptStep l _ = ⊥

  -- all that the lanes have grown by is committed
  abbrev pub CommitStep : List LaneState → Answer F Z → Type 0
  CommitStep lanes answer.Done = Notes k m entry.Commit (Published (growths_of told lanes)) old new
  CommitStep lanes _ = ⊥

  -- the lane comes home, clean exactly where it has just its committed bytes
  abbrev pub BackStep : LaneState → Answer F Z → Type 0
  BackStep l answer.Done = Notes k m (entry.Back l.table l.number (are_clean l.files)) Nothing old new
  BackStep l _ = ⊥

  -- the lowest lane with a tail, of the lowest table that has one; or no lane of any table has one
  abbrev pub SweepAnyStep : Answer F Z → Type 0
  SweepAnyStep (answer.Sweep l) =
      Notes k m (entry.Sweep l.table l.number) Nothing old new × IsFirstDirty (entries_of old) l.table l.number × IsGiven told old l.table l.number l
  SweepAnyStep answer.Nothing = Notes k m entry.Idle Nothing old new × ((t : ℕ) → HasNoDirty (entries_of old) t)
  SweepAnyStep answer.NoMemory = new ≡ old
  SweepAnyStep _ = ⊥

  -- the node is marked
  abbrev pub MarkStep : ℕ → Bool → Answer F Z → Type 0
  MarkStep node up answer.Done = Notes k m (entry.Mark node up) Nothing old new
  MarkStep node up answer.NoMemory = new ≡ old
  MarkStep node up _ = ⊥

-- the answer to statement m of session k, and what it leaves of the history
abbrev pub CatStep : {F Z : Type 0} → Bool → ℕ → ℕ → ℕ → List Noted → Ask F Z → List Noted → Answer F Z → Type 0
CatStep {F} {Z} told nodes k m old (ask.Look scope have) new r = LookStep {F = F} {Z = Z} told nodes k m old new scope have.items r
CatStep {F} {Z} told nodes k m old (ask.Create def) new r = CreateStep {F = F} {Z = Z} told nodes k m old new def r
CatStep {F} {Z} told nodes k m old (ask.Alter name column) new r = AlterStep {F = F} {Z = Z} told nodes k m old new name column r
CatStep {F} {Z} told nodes k m old (ask.Lend t) new r = LendStep {F = F} {Z = Z} told nodes k m old new t r
CatStep {F} {Z} told nodes k m old (ask.Adopt l) new r = AdoptStep {F = F} {Z = Z} told nodes k m old new l r
CatStep {F} {Z} told nodes k m old (ask.Commit lanes) new r = CommitStep {F = F} {Z = Z} told nodes k m old new lanes.items r
CatStep {F} {Z} told nodes k m old (ask.Back l) new r = BackStep {F = F} {Z = Z} told nodes k m old new l r
CatStep {F} {Z} told nodes k m old ask.SweepAny new r = SweepAnyStep {F = F} {Z = Z} told nodes k m old new r
CatStep {F} {Z} told nodes k m old (ask.Mark node up) new r = MarkStep {F = F} {Z = Z} told nodes k m old new node up r
