-- What a session waits for once it has asked.
--     IsWork s          it is a statement over rows: a SELECT or an INSERT
--     entry_of ask      the one entry that the ask has, where it can have no other
--     AsksAtEnd         a Commit, a Back or a Mark(down), behind which it owes its reply
--     AsksCreate        a CREATE TABLE asks for its table
--     AsksAlter         an ALTER TABLE asks for its column
use Rattle.std.specs.Prelude.{◌≡◌, ℕ, Bool, true, false, List, [], ◌∷◌, ◌++◌, Option, Some, None}
use Rattle.hq_value.specs.declared.entry.EntryKind.{EntryKind}
use Rattle.hq_value.specs.declared.entry.EntryKind.TheVariants as entry
use Rattle.hq_value.specs.declared.table.Column.{Column}
use Rattle.hq_value.specs.Tables.{Definition}
use Rattle.hq_sql.specs.declared.tree.Statement.{Statement}
use Rattle.hq_sql.specs.declared.tree.Statement.TheVariants as statement
use Rattle.hq_sql.specs.declared.tree.CreateStatement.{CreateStatement}
use Rattle.hq_lane.specs.Lanes.{are_clean}
use Rattle.hq_catalog.specs.declared.ask.Ask.{Ask}
use Rattle.hq_catalog.specs.declared.ask.Ask.TheVariants as ask
use Rattle.hq_txn.specs.Transactions.{Transaction}
use Rattle.hq_txn.specs.declared.state.TxnState.TheVariants as txn
use Rattle.hq_reply.specs.declared.fault.Fault.TheVariants as fault
use Rattle.hq_reply.specs.declared.reply.Reply.{Reply}
use Rattle.hq_reply.specs.declared.reply.Reply.TheVariants as reply
use Rattle.hq_transcript.specs.Pieces.{Reads}
use Rattle.hq_transcript.specs.Binding.{Binder, Bound}
use Rattle.hq_transcript.specs.Step.{Idle}
use Rattle.hq_turns.specs.Counts.{Counts}
use Rattle.hq_turns.specs.Now.{Now}
use Rattle.hq_turns.specs.Ends.{Owes, IsAsBefore}

-- the one entry of a Commit, a Back or a Mark
abbrev pub entry_of : {F Z : Type 0} → Ask F Z → Option EntryKind
entry_of (ask.Commit lanes) = Some entry.Commit
entry_of (ask.Back lane) = Some (entry.Back lane.table lane.number (are_clean lane.files))
entry_of (ask.Mark n up) = Some (entry.Mark n up)
entry_of _ = None

abbrev pub is_mark : EntryKind → Bool
is_mark (entry.Mark n up) = true
is_mark _ = false

-- a statement over rows
abbrev pub IsWork : Statement → Type 0
IsWork (statement.Select s) = Unit {0}
IsWork (statement.Insert i) = Unit {0}
IsWork _ = ⊥

module _ (told : Bool) where
  -- an ALTER TABLE outside a transaction
  pub record AsksAlter {F Z : Type 0} (now : Now) (a : Ask F Z) (t : Transaction) (c : Counts) : Type 0 where
    pub name : List ℕ
    pub column : Column
    pub asked : a ≡ ask.Alter name column
    pub piece : now.piece ≡ Some (Reads (statement.Alter name column))
    pub state : now.state ≡ Idle
    pub entries : now.entries ≡ []
    pub change : now.found.change ≡ None
    pub before : IsAsBefore told now t c

module _ (binds : Binder) (told : Bool) where
  -- behind the entry it owes this reply; a Mark may find no memory, and then it owes 53200 without
  pub record AsksAtEnd {F Z : Type 0} (now : Now) (a : Ask F Z) (give : Bool) (r : Option Reply) (t : Transaction) (c : Counts) : Type 0 where
    pub kind : EntryKind
    pub asked : entry_of a ≡ Some kind
    pub owes : Owes binds told now give (now.entries ++ kind ∷ []) r t c
    -- where no lane goes back the transaction is no longer open
    pub shut : give ≡ false → t.state ≡ txn.Open → ⊥
    pub unmarked : is_mark kind ≡ true → Owes binds told now give now.entries (Some (reply.Error fault.NoMemory)) t c

  -- a CREATE TABLE outside a transaction that its text does not refuse
  pub record AsksCreate {F Z : Type 0} (now : Now) (a : Ask F Z) (t : Transaction) (c : Counts) : Type 0 where
    pub create : CreateStatement
    pub table : Definition
    pub asked : a ≡ ask.Create table
    pub piece : now.piece ≡ Some (Reads (statement.Create create))
    pub bound : binds.create create ≡ Bound table
    pub state : now.state ≡ Idle
    pub entries : now.entries ≡ []
    pub change : now.found.change ≡ None
    pub before : IsAsBefore told now t c
