-- What a statement may answer, with the entries that it has in the log.
--     Step found state lanes piece entries reply     a piece that finds this, in this state and with these lanes in hand, may have
--                                                    these entries and this reply, none where it is blank
--     state_after, lanes_after                       the session's state and its lanes behind it
-- A statement has a course: its entries and its reply where nothing outside fails. It may end before that, by a fault or want of memory.
use Rattle.std.specs.Prelude.{◌≡◌, ◌⊎◌, ℕ, suc, Bool, true, false, List, [], ◌∷◌, ◌++◌, length, map, Option, Some, None, slice_get, fold, nat_lt, nat_le, ◌==◌, ◌&&◌, ◌||◌, if◌then◌else◌, unwrap_or}
use Rattle.std.specs.List.{list_any}
use Rattle.hq_value.specs.declared.entry.EntryKind.{EntryKind}
use Rattle.hq_value.specs.declared.entry.EntryKind.TheVariants as entry
use Rattle.hq_value.specs.declared.table.Column.{Column}
use Rattle.hq_value.specs.Marks.{some_up}
use Rattle.hq_value.specs.Tables.{Definition}
use Rattle.hq_sql.specs.declared.tree.Statement.{Statement}
use Rattle.hq_sql.specs.declared.tree.Statement.TheVariants as statement
use Rattle.hq_sql.specs.declared.tree.InsertStatement.{InsertStatement}
use Rattle.hq_sql.specs.declared.tree.SelectStatement.{SelectStatement}
use Rattle.hq_algebra.specs.declared.query.Query.{Query}
use Rattle.hq_bind.specs.Tables.{CreateFault, exists, too_many_tables, create_fault, AlterFault, no_table, too_many_columns, column_there, alter_fault}
use Rattle.hq_meaning.specs.Mean.{Answer, Rows, Numeric, mean}
use Rattle.hq_reply.specs.declared.fault.Fault.{Fault}
use Rattle.hq_reply.specs.declared.fault.Fault.TheVariants as fault
use Rattle.hq_reply.specs.declared.reply.Reply.{Reply}
use Rattle.hq_reply.specs.declared.reply.Reply.TheVariants as reply
use Rattle.hq_transcript.specs.Pieces.{Piece, Blank, Too_long, No_statement, Reads}
use Rattle.hq_transcript.specs.Tables.{Put}
use Rattle.hq_transcript.specs.Binding.{Binding, Refused, Bound, Binder, Insertion, table_of, inserted, breaks_not_null}
use Rattle.hq_transcript.specs.Sights.{Sight, Found, visible}

-- ---- states and lanes

-- `begun` is the statement that began the transaction
pub data State : Type 0 where
  Idle : State
  Open : (begun : ℕ) → State
  Failed : (begun : ℕ) → State

-- the statement that began the transaction, or 0
abbrev pub begun : State → ℕ
begun Idle = 0
begun (Open b) = b
begun (Failed b) = b

abbrev pub is_idle : State → Bool
is_idle Idle = true
is_idle _ = false

-- an error fails an open transaction
abbrev pub state_by : State → ℕ → Reply → State
state_by state m reply.Begun = Open m
state_by state m reply.Committed = Idle
state_by state m reply.RolledBack = Idle
state_by (Open b) m (reply.Error why) = Failed b
state_by state m _ = state

-- but a COMMIT leaves none, also where it is refused. A blank piece changes nothing
abbrev pub state_after : State → ℕ → Piece → Option Reply → State
state_after state m piece None = state
state_after (Open b) m (Reads statement.Commit) (Some r) = Idle
state_after state m piece (Some r) = state_by state m r

-- lanes in hand, each as its table and its number, in the order in which they were lent
abbrev pub Lanes : Type 0
Lanes = List (ℕ × ℕ)

abbrev pub without : ℕ → ℕ → Lanes → Lanes
without t n [] = []
without t n (lane ∷ lanes) = if (lane.0 == t) && (lane.1 == n) then lanes else lane ∷ without t n lanes

abbrev pub lanes_by : Lanes → EntryKind → Lanes
lanes_by lanes (entry.Lend t n) = lanes ++ (t, n) ∷ []
lanes_by lanes (entry.Adopt t n) = lanes ++ (t, n) ∷ []
lanes_by lanes (entry.Back t n clean) = without t n lanes
lanes_by lanes entry.Commit = []
lanes_by lanes _ = lanes

abbrev pub lanes_after : Lanes → List EntryKind → Lanes
lanes_after = fold lanes_by

abbrev pub has_lane : Lanes → ℕ → Bool
has_lane lanes t = list_any (λ lane. lane.0 == t) lanes

-- one Back for each lane, in order
abbrev pub AreBacks : Lanes → List EntryKind → Type 0
AreBacks [] [] = Unit {0}
AreBacks (lane ∷ lanes) (entry.Back t n clean ∷ entries) = (t ≡ lane.0) × (n ≡ lane.1) × AreBacks lanes entries
AreBacks _ _ = ⊥

-- ---- the course of a statement

pub record Course : Type 0 where
  pub entries : List EntryKind
  pub answer : Reply

-- how a session comes by a lane: a clean or a new one, one that it cuts first, or none
pub data Way : Type 0 where
  Lent : (lane : ℕ) → Way
  Swept : (lane : ℕ) → Way
  All_out : Way

-- what the log settles: the hosts that answered where every node was marked down, and the way to a lane
pub record Choice : Type 0 where
  pub answered : List ℕ
  pub way : Way

abbrev pub refused : List EntryKind → Fault → Course
refused entries why = record { entries = entries; answer = reply.Error why }

-- a Look where none stands
abbrev pub look_part : Bool → List EntryKind
look_part stands = if stands then [] else entry.Look ∷ []

abbrev pub has_some : {A : Type 0} → List A → Bool
has_some [] = false
has_some (x ∷ xs) = true

-- a Mark for each host that answered, where every node was marked down
abbrev pub nodes_part : List Bool → List ℕ → List EntryKind
nodes_part up answered = if some_up up then [] else map (λ n. entry.Mark n true) answered

-- the nodes are chosen, and then the statement goes on
abbrev pub over_nodes : List EntryKind → List Bool → List ℕ → (List EntryKind → Course) → Course
over_nodes before up answered course =
    if some_up up || has_some answered then course (before ++ nodes_part up answered) else refused before fault.NoSegment

abbrev pub reply_of : Answer → Reply
reply_of Numeric = reply.Error fault.NumericRange
reply_of (Rows rows) = reply.Rows rows

-- the entries of a way to a lane
abbrev pub way_part : ℕ → Way → List EntryKind
way_part t (Lent n) = entry.Lend t n ∷ []
way_part t (Swept n) = entry.Sweep t n ∷ entry.Adopt t n ∷ []
way_part t All_out = entry.Full t ∷ []

-- rows are written: over a lane in hand, or by the way to one, and outside a transaction with a Commit
abbrev pub written : Bool → ℕ → Way → Bool → ℕ → List EntryKind → Course
written false t All_out idle rows before = refused (before ++ entry.Full t ∷ []) fault.TooManyWriters
written has t way idle rows before =
    record { entries = before ++ (if has then [] else way_part t way) ++ (if idle then entry.Commit ∷ [] else []); answer = reply.Inserted rows }

-- rows are checked: their meaning, whether there are any, and NOT NULL
abbrev pub write_course : Bool → Bool → List Definition → ℕ → Way → Answer → List EntryKind → Course
write_course has idle tables t way Numeric before = refused before fault.NumericRange
write_course has idle tables t way (Rows []) before = record { entries = before; answer = reply.Inserted 0 }
write_course has idle tables t way (Rows (row ∷ rows)) before =
    if breaks_not_null tables t (row ∷ rows) then refused before fault.NullNotAllowed else written has t way idle (length (row ∷ rows)) before

-- a SELECT over its look
abbrev pub select_course : Bool → Sight → List Put → Choice → Binding Query → Course
select_course stands sight own choice (Refused why) = refused (look_part stands) why
select_course stands sight own choice (Bound q) =
    over_nodes (look_part stands) sight.up choice.answered (λ before. record { entries = before; answer = reply_of (mean q (visible sight own)) })

-- an INSERT over its look
abbrev pub insert_course : Bool → Bool → Lanes → Sight → List Put → Choice → Binding Insertion → Course
insert_course stands idle lanes sight own choice (Refused why) = refused (look_part stands) why
insert_course stands idle lanes sight own choice (Bound insertion) =
    let t = table_of insertion in
    over_nodes (look_part stands) sight.up choice.answered
    (write_course (has_lane lanes t) idle sight.tables t choice.way (inserted insertion (visible sight own)))

-- ---- early ends

-- the lane that a statement has got by these entries, or is cutting
pub data Got : Type 0 where
  No_lane : Got
  Got_lane : (table lane : ℕ) → Got
  Cutting : (table lane : ℕ) → Got

abbrev pub got_by : Got → EntryKind → Got
got_by got (entry.Lend t n) = Got_lane t n
got_by got (entry.Sweep t n) = Cutting t n
got_by got (entry.Adopt t n) = Got_lane t n
got_by got _ = got

abbrev pub got : List EntryKind → Got
got entries = fold got_by No_lane entries

-- an entry that only a whole course has
abbrev pub is_last : EntryKind → Bool
is_last entry.Commit = true
is_last (entry.Full t) = true
is_last _ = false

abbrev pub is_commit : EntryKind → Bool
is_commit entry.Commit = true
is_commit _ = false

-- a node that failed is marked down
abbrev pub mark_down : Fault → List EntryKind
mark_down (fault.Host n) = entry.Mark n false ∷ []
mark_down _ = []

-- what goes back at an early end: a lane whose cut failed, with a tail; outside a transaction a lane got in this statement
abbrev pub AreGivenBack : Got → Bool → Fault → List EntryKind → Type 0
AreGivenBack No_lane idle why entries = entries ≡ []
AreGivenBack (Cutting t n) idle why entries = (why ≡ fault.Store) × (entries ≡ entry.Back t n false ∷ [])
AreGivenBack (Got_lane t n) true why entries = (clean : Bool) × (entries ≡ entry.Back t n clean ∷ [])
AreGivenBack (Got_lane t n) false why entries = entries ≡ []

abbrev pub is_mark_up : ℕ → EntryKind → Bool
is_mark_up n (entry.Mark node up) = (node == n) && up
is_mark_up n _ = false

-- node n is in use: marked up at the look, or where none is, one that answered in this statement
abbrev pub is_in_use : List Bool → List EntryKind → ℕ → Bool
is_in_use up entries n = if some_up up then unwrap_or (slice_get up n) false else list_any (is_mark_up n) entries

-- a fault from outside, or want of memory
abbrev pub is_fault : Reply → Bool
is_fault (reply.Error fault.Store) = true
is_fault (reply.Error fault.BadBlock) = true
is_fault (reply.Error fault.NoMemory) = true
is_fault (reply.Error (fault.Host n)) = true
is_fault (reply.Error (fault.LinkLost n)) = true
is_fault (reply.Error (fault.LinkFailed n)) = true
is_fault _ = false

-- a fault that may come from outside over these nodes, or want of memory. Where the store tells its bytes no block is bad
abbrev pub IsOutside : Bool → (ℕ → Bool) → Fault → Type 0
IsOutside told used fault.Store = Unit {0}
IsOutside told used fault.BadBlock = told ≡ false
IsOutside told used fault.NoMemory = Unit {0}
IsOutside told used (fault.Host n) = used n ≡ true
IsOutside told used (fault.LinkLost n) = used n ≡ true
IsOutside told used (fault.LinkFailed n) = used n ≡ true
IsOutside told used _ = ⊥

-- the statement ended early, after a first part of its course without Commit and Full
pub record IsEarly (told : Bool) (up : List Bool) (idle : Bool) (whole entries : List EntryKind) (r : Reply) : Type 0 where
  pub why : Fault
  pub front : List EntryKind
  pub rest : List EntryKind
  pub back : List EntryKind
  pub answer : r ≡ reply.Error why
  pub outside : IsOutside told (is_in_use up front) why
  pub begins : whole ≡ front ++ rest
  pub unfinished : list_any is_last front ≡ false
  pub ends : entries ≡ front ++ mark_down why ++ back
  pub given_back : AreGivenBack (got front) idle why back

-- nodes in ascending order, from low up and below high
abbrev pub is_ascending : ℕ → ℕ → List ℕ → Bool
is_ascending low high [] = true
is_ascending low high (n ∷ ns) = nat_le low n && nat_lt n high && is_ascending (suc n) high ns

-- the whole course for some choice, or an early end of it
abbrev pub Follows : Bool → Bool → List Bool → (Choice → Course) → List EntryKind → Reply → Type 0
Follows told idle up course entries r =
    (choice : Choice) × (is_ascending 0 (length up) choice.answered ≡ true)
    × (((entries ≡ (course choice).entries) × (r ≡ (course choice).answer)) ⊎ IsEarly told up idle (course choice).entries entries r)

-- the statement ended before its Look, Create or Alter
abbrev pub IsUnlooked : List EntryKind → Reply → Type 0
IsUnlooked entries r = (entries ≡ []) × (r ≡ reply.Error fault.NoMemory)

-- a reply with no entry; the same, or 53200
abbrev pub Answers : Reply → List EntryKind → Reply → Type 0
Answers given entries r = (entries ≡ []) × (r ≡ given)

abbrev pub AnswersAtMost : Reply → List EntryKind → Reply → Type 0
AnswersAtMost given entries r = (entries ≡ []) × ((r ≡ given) ⊎ (r ≡ reply.Error fault.NoMemory))

-- ---- the cases

-- the reply to a CREATE TABLE at its entry
abbrev pub created_reply : Option CreateFault → Reply
created_reply None = reply.Created
created_reply (Some exists) = reply.Error fault.TableExists
created_reply (Some too_many_tables) = reply.Error fault.TooManyTables

-- CREATE TABLE over the tables before its entry
abbrev pub create_reply : List Definition → Definition → Reply
create_reply tables table = created_reply (create_fault tables table.name)

abbrev pub CreateStep : Option Sight → Binding Definition → List EntryKind → Reply → Type 0
CreateStep found (Refused why) entries r = AnswersAtMost (reply.Error why) entries r
CreateStep None (Bound table) entries r = IsUnlooked entries r
CreateStep (Some sight) (Bound table) entries r = (entries ≡ entry.Create ∷ []) × (r ≡ create_reply sight.tables table)

-- the reply to an ALTER TABLE at its entry
abbrev pub altered_reply : Option AlterFault → Reply
altered_reply None = reply.Altered
altered_reply (Some no_table) = reply.Error fault.UndefinedTable
altered_reply (Some too_many_columns) = reply.Error fault.Limit
altered_reply (Some column_there) = reply.Error fault.DuplicateColumn

-- ALTER TABLE over the tables before its entry
abbrev pub alter_reply : List Definition → List ℕ → Column → Reply
alter_reply tables name column = altered_reply (alter_fault tables name column)

abbrev pub AlterStep : Option Sight → List ℕ → Column → List EntryKind → Reply → Type 0
AlterStep None name column entries r = IsUnlooked entries r
AlterStep (Some sight) name column entries r = (entries ≡ entry.Alter ∷ []) × (r ≡ alter_reply sight.tables name column)

-- COMMIT in an open transaction: it has nothing to prepare where no lane is in hand
abbrev pub CommitStep : Lanes → List EntryKind → Reply → Type 0
CommitStep [] entries r = Answers reply.Committed entries r
CommitStep (lane ∷ lanes) entries r =
    ((entries ≡ entry.Commit ∷ []) × (r ≡ reply.Committed))
    ⊎ (AreBacks (lane ∷ lanes) entries × ((r ≡ reply.Error fault.Store) ⊎ (r ≡ reply.Error fault.NoMemory)))

-- ROLLBACK, or the COMMIT of a failed transaction: every lane goes back
abbrev pub RollbackStep : Lanes → List EntryKind → Reply → Type 0
RollbackStep lanes entries r = AreBacks lanes entries × (r ≡ reply.RolledBack)

-- `told`: the store tells its bytes
module _ (binds : Binder) (told : Bool) where
  abbrev pub SelectStep : Bool → Option Sight → List Put → SelectStatement → List EntryKind → Reply → Type 0
  SelectStep stands None own select entries r = IsUnlooked entries r
  SelectStep stands (Some sight) own select entries r =
      Follows told false sight.up (λ choice. select_course stands sight own choice (binds.select sight.tables select)) entries r

  abbrev pub InsertStep : Bool → Bool → Lanes → Option Sight → List Put → InsertStatement → List EntryKind → Reply → Type 0
  InsertStep stands idle lanes None own insert entries r = IsUnlooked entries r
  InsertStep stands idle lanes (Some sight) own insert entries r =
      Follows told idle sight.up (λ choice. insert_course stands idle lanes sight own choice (binds.insert sight.tables insert)) entries r

  -- a statement in each state
  abbrev pub StatementStep : Found → State → Lanes → Statement → List EntryKind → Reply → Type 0
  StatementStep found Idle lanes (statement.Begin snapshot) = Answers reply.Begun
  StatementStep found (Open b) lanes (statement.Begin snapshot) = Answers (reply.Error fault.TransactionOpen)
  StatementStep found (Failed b) lanes (statement.Begin snapshot) = Answers (reply.Error fault.TransactionFailed)
  StatementStep found Idle lanes statement.Commit = Answers (reply.Error fault.NoTransaction)
  StatementStep found (Open b) lanes statement.Commit = CommitStep lanes
  StatementStep found (Failed b) lanes statement.Commit = RollbackStep lanes
  StatementStep found Idle lanes statement.Rollback = Answers (reply.Error fault.NoTransaction)
  StatementStep found (Open b) lanes statement.Rollback = RollbackStep lanes
  StatementStep found (Failed b) lanes statement.Rollback = RollbackStep lanes
  StatementStep found Idle lanes (statement.Create create) = CreateStep found.change (binds.create create)
  StatementStep found (Open b) lanes (statement.Create create) = AnswersAtMost (reply.Error fault.TransactionOpen)
  StatementStep found (Failed b) lanes (statement.Create create) = AnswersAtMost (reply.Error fault.TransactionFailed)
  StatementStep found Idle lanes (statement.Alter name column) = AlterStep found.change name column
  StatementStep found (Open b) lanes (statement.Alter name column) = AnswersAtMost (reply.Error fault.TransactionOpen)
  StatementStep found (Failed b) lanes (statement.Alter name column) = AnswersAtMost (reply.Error fault.TransactionFailed)
  StatementStep found (Failed b) lanes (statement.Select select) = AnswersAtMost (reply.Error fault.TransactionFailed)
  StatementStep found state lanes (statement.Select select) = SelectStep found.stands found.look found.own select
  StatementStep found (Failed b) lanes (statement.Insert insert) = AnswersAtMost (reply.Error fault.TransactionFailed)
  StatementStep found state lanes (statement.Insert insert) = InsertStep found.stands (is_idle state) lanes found.look found.own insert

  abbrev pub Step : Found → State → Lanes → Piece → List EntryKind → Option Reply → Type 0
  Step found state lanes Blank entries None = entries ≡ []
  Step found state lanes Blank entries (Some r) = ⊥
  Step found state lanes piece entries None = ⊥
  Step found state lanes Too_long entries (Some r) = Answers (reply.Error fault.TooLong) entries r
  Step found state lanes No_statement entries (Some r) = AnswersAtMost (reply.Error fault.Syntax) entries r
  Step found state lanes (Reads s) entries (Some r) = StatementStep found state lanes s entries r
