-- Only a BEGIN outside a transaction answers that one has begun.
use Rattle.std.proofs.Common.{◌≡◌, ◌⊎◌, inl, inr, ℕ, Bool, true, false, ◌||◌, cond, Option, Some, None, List, [], ◌∷◌, ◌++◌, length, refl, sym, ◌∙◌, ap, if◌then◌else◌}
use Rattle.hq_value.specs.declared.entry.EntryKind.{EntryKind}
use Rattle.hq_value.specs.declared.table.Column.{Column}
use Rattle.hq_value.specs.declared.value.Value.{Value}
use Rattle.hq_value.specs.Marks.{some_up}
use Rattle.hq_value.specs.Tables.{Definition}
use Rattle.hq_sql.specs.declared.tree.Statement.{Statement}
use Rattle.hq_sql.specs.declared.tree.Statement.TheVariants as statement
use Rattle.hq_sql.specs.declared.tree.InsertStatement.{InsertStatement}
use Rattle.hq_sql.specs.declared.tree.SelectStatement.{SelectStatement}
use Rattle.hq_algebra.specs.declared.query.Query.{Query}
use Rattle.hq_bind.specs.Tables.{CreateFault, create_fault, exists, too_many_tables, AlterFault, alter_fault, no_table, too_many_columns, column_there}
use Rattle.hq_meaning.specs.Mean.{Answer, Rows, Numeric, mean}
use Rattle.hq_reply.specs.declared.reply.Reply.{Reply}
use Rattle.hq_reply.specs.declared.reply.Reply.TheVariants as reply
use Rattle.hq_reply.specs.declared.fault.Fault.TheVariants as fault
use Rattle.hq_transcript.specs.Pieces.{Piece, Blank, Too_long, No_statement, Reads}
use Rattle.hq_transcript.specs.Tables.{Put}
use Rattle.hq_transcript.specs.Binding.{Binder, Binding, Refused, Bound, Insertion, table_of, inserted, breaks_not_null}
use Rattle.hq_transcript.specs.Sights.{Sight, Found, visible}
use Rattle.hq_transcript.specs.Step.{State, Idle, Open, Failed, Lanes, Choice, Course, Way, Lent, Swept, All_out, Answers, AnswersAtMost, IsUnlooked, Follows, Step, StatementStep, SelectStep, InsertStep, CreateStep, AlterStep, CommitStep, RollbackStep, created_reply, create_reply, altered_reply, alter_reply, select_course, insert_course, over_nodes, look_part, nodes_part, write_course, written, has_lane, has_some, reply_of, state_after, state_by, is_idle}

abbrev pub is_begun : Reply → Bool
is_begun reply.Begun = true
is_begun _ = false

-- ---- no course answers so

begun-not : (r given : Reply) → is_begun given ≡ false → r ≡ given → is_begun r ≡ false
begun-not r given h e = ap is_begun e ∙ h

reply-not : (a : Answer) → is_begun (reply_of a) ≡ false
reply-not Numeric = refl
reply-not (Rows rows) = refl

over-not : (before : List EntryKind) (up : List Bool) (answered : List ℕ) (course : List EntryKind → Course) → ((es : List EntryKind) → is_begun (course es).answer ≡ false)
    → is_begun (over_nodes before up answered course).answer ≡ false
over-not before up answered course h = at (some_up up || has_some answered)
  where
    at : (b : Bool) → is_begun (if b then course (before ++ nodes_part up answered) else record { entries = before; answer = reply.Error fault.NoSegment }).answer ≡ false
    at true = h _
    at false = refl

select-not : (stands : Bool) (sight : Sight) (own : List Put) (choice : Choice) (b : Binding Query) → is_begun (select_course stands sight own choice b).answer ≡ false
select-not stands sight own choice (Refused why) = refl
select-not stands sight own choice (Bound q) = over-not (look_part stands) sight.up choice.answered (λ es. record { entries = es; answer = reply_of (mean q (visible sight own)) })
    (λ es. reply-not (mean q (visible sight own)))

written-not : (has : Bool) (t : ℕ) (way : Way) (idle : Bool) (rows : ℕ) (es : List EntryKind) → is_begun (written has t way idle rows es).answer ≡ false
written-not false t All_out idle rows es = refl
written-not false t (Lent n) idle rows es = refl
written-not false t (Swept n) idle rows es = refl
written-not true t way idle rows es = refl

write-not : (has idle : Bool) (tables : List Definition) (t : ℕ) (way : Way) (a : Answer) (es : List EntryKind) → is_begun (write_course has idle tables t way a es).answer ≡ false
write-not has idle tables t way Numeric es = refl
write-not has idle tables t way (Rows []) es = refl
write-not has idle tables t way (Rows (row ∷ rows)) es = at (breaks_not_null tables t (row ∷ rows))
  where
    at : (b : Bool) → is_begun (if b then record { entries = es; answer = reply.Error fault.NullNotAllowed } else written has t way idle (length (row ∷ rows)) es).answer ≡ false
    at true = refl
    at false = written-not has t way idle (length (row ∷ rows)) es

insert-not : (stands idle : Bool) (lanes : Lanes) (sight : Sight) (own : List Put) (choice : Choice) (b : Binding Insertion)
    → is_begun (insert_course stands idle lanes sight own choice b).answer ≡ false
insert-not stands idle lanes sight own choice (Refused why) = refl
insert-not stands idle lanes sight own choice (Bound i) =
    over-not (look_part stands) sight.up choice.answered
    (write_course (has_lane lanes (table_of i)) idle sight.tables (table_of i) choice.way (inserted i (visible sight own)))
    (λ es. write-not (has_lane lanes (table_of i)) idle sight.tables (table_of i) choice.way (inserted i (visible sight own)) es)

-- ---- nor does a step of another piece

answers-not : (given r : Reply) (es : List EntryKind) → is_begun given ≡ false → Answers given es r → is_begun r ≡ false
answers-not given r es h a = begun-not r given h a.1

at-most-not : (given r : Reply) (es : List EntryKind) → is_begun given ≡ false → AnswersAtMost given es r → is_begun r ≡ false
at-most-not given r es h (none, inl e) = begun-not r given h e
at-most-not given r es h (none, inr e) = begun-not r (reply.Error fault.NoMemory) refl e

unlooked-not : (r : Reply) (es : List EntryKind) → IsUnlooked es r → is_begun r ≡ false
unlooked-not r es u = begun-not r (reply.Error fault.NoMemory) refl u.1

follows-not : (told idle : Bool) (up : List Bool) (course : Choice → Course) (es : List EntryKind) (r : Reply) → ((choice : Choice) → is_begun (course choice).answer ≡ false)
    → Follows told idle up course es r → is_begun r ≡ false
follows-not told idle up course es r h (choice, ascending, inl whole) = begun-not r (course choice).answer (h choice) whole.1
follows-not told idle up course es r h (choice, ascending, inr early) = begun-not r (reply.Error early.why) refl early.answer

created-not : (o : Option CreateFault) → is_begun (created_reply o) ≡ false
created-not None = refl
created-not (Some exists) = refl
created-not (Some too_many_tables) = refl

altered-not : (o : Option AlterFault) → is_begun (altered_reply o) ≡ false
altered-not None = refl
altered-not (Some no_table) = refl
altered-not (Some too_many_columns) = refl
altered-not (Some column_there) = refl

create-not : (found : Option Sight) (b : Binding Definition) (es : List EntryKind) (r : Reply) → CreateStep found b es r → is_begun r ≡ false
create-not None (Refused why) es r s = at-most-not (reply.Error why) r es refl s
create-not (Some sight) (Refused why) es r s = at-most-not (reply.Error why) r es refl s
create-not None (Bound table) es r s = unlooked-not r es s
create-not (Some sight) (Bound table) es r s = begun-not r (create_reply sight.tables table) (created-not (create_fault sight.tables table.name)) s.1

alter-not : (found : Option Sight) (name : List ℕ) (column : Column) (es : List EntryKind) (r : Reply) → AlterStep found name column es r → is_begun r ≡ false
alter-not None name column es r s = unlooked-not r es s
alter-not (Some sight) name column es r s = begun-not r (alter_reply sight.tables name column) (altered-not (alter_fault sight.tables name column)) s.1

commit-not : (lanes : Lanes) (es : List EntryKind) (r : Reply) → CommitStep lanes es r → is_begun r ≡ false
commit-not [] es r s = answers-not reply.Committed r es refl s
commit-not (lane ∷ lanes) es r (inl s) = begun-not r reply.Committed refl s.1
commit-not (lane ∷ lanes) es r (inr (backs, inl e)) = begun-not r (reply.Error fault.Store) refl e
commit-not (lane ∷ lanes) es r (inr (backs, inr e)) = begun-not r (reply.Error fault.NoMemory) refl e

module _ (binds : Binder) (told : Bool) where
  select-step-not : (stands : Bool) (look : Option Sight) (own : List Put) (s : SelectStatement) (es : List EntryKind) (r : Reply)
      → SelectStep binds told stands look own s es r → is_begun r ≡ false
  select-step-not stands None own s es r h = unlooked-not r es h
  select-step-not stands (Some sight) own s es r h =
      follows-not told false sight.up (λ choice. select_course stands sight own choice (binds.select sight.tables s)) es r (λ choice. select-not stands sight own choice (binds.select sight.tables s)) h

  insert-step-not : (stands idle : Bool) (lanes : Lanes) (look : Option Sight) (own : List Put) (i : InsertStatement) (es : List EntryKind) (r : Reply)
      → InsertStep binds told stands idle lanes look own i es r → is_begun r ≡ false
  insert-step-not stands idle lanes None own i es r h = unlooked-not r es h
  insert-step-not stands idle lanes (Some sight) own i es r h =
      follows-not told idle sight.up (λ choice. insert_course stands idle lanes sight own choice (binds.insert sight.tables i)) es r (λ choice. insert-not stands idle lanes sight own choice (binds.insert sight.tables i)) h

  -- it is a BEGIN outside a transaction
  abbrev pub Begins : State → Piece → Type 0
  Begins st p = (st ≡ Idle) × ((snapshot : Bool) × (p ≡ Reads (statement.Begin snapshot)))

  no-begin : (st : State) (p : Piece) (r : Reply) → is_begun r ≡ false → is_begun r ≡ true → Begins st p
  no-begin st p r h e = absurd (let no : false ≡ true = sym h ∙ e in cc)

  begin-statement : (found : Found) (st : State) (lanes : Lanes) (s : Statement) (es : List EntryKind) (r : Reply) → is_begun r ≡ true
      → StatementStep binds told found st lanes s es r → Begins st (Reads s)
  begin-statement found Idle lanes (statement.Begin snapshot) es r e h = (refl, (snapshot, refl))
  begin-statement found (Open b) lanes (statement.Begin snapshot) es r e h = no-begin _ _ r (answers-not _ r es refl h) e
  begin-statement found (Failed b) lanes (statement.Begin snapshot) es r e h = no-begin _ _ r (answers-not _ r es refl h) e
  begin-statement found Idle lanes statement.Commit es r e h = no-begin _ _ r (answers-not _ r es refl h) e
  begin-statement found (Open b) lanes statement.Commit es r e h = no-begin _ _ r (commit-not lanes es r h) e
  begin-statement found (Failed b) lanes statement.Commit es r e h = no-begin _ _ r (begun-not r reply.RolledBack refl h.1) e
  begin-statement found Idle lanes statement.Rollback es r e h = no-begin _ _ r (answers-not _ r es refl h) e
  begin-statement found (Open b) lanes statement.Rollback es r e h = no-begin _ _ r (begun-not r reply.RolledBack refl h.1) e
  begin-statement found (Failed b) lanes statement.Rollback es r e h = no-begin _ _ r (begun-not r reply.RolledBack refl h.1) e
  begin-statement found Idle lanes (statement.Create create) es r e h = no-begin _ _ r (create-not found.change (binds.create create) es r h) e
  begin-statement found (Open b) lanes (statement.Create create) es r e h = no-begin _ _ r (at-most-not _ r es refl h) e
  begin-statement found (Failed b) lanes (statement.Create create) es r e h = no-begin _ _ r (at-most-not _ r es refl h) e
  begin-statement found Idle lanes (statement.Alter name column) es r e h = no-begin _ _ r (alter-not found.change name column es r h) e
  begin-statement found (Open b) lanes (statement.Alter name column) es r e h = no-begin _ _ r (at-most-not _ r es refl h) e
  begin-statement found (Failed b) lanes (statement.Alter name column) es r e h = no-begin _ _ r (at-most-not _ r es refl h) e
  begin-statement found Idle lanes (statement.Select s) es r e h = no-begin _ _ r (select-step-not found.stands found.look found.own s es r h) e
  begin-statement found (Open b) lanes (statement.Select s) es r e h = no-begin _ _ r (select-step-not found.stands found.look found.own s es r h) e
  begin-statement found (Failed b) lanes (statement.Select s) es r e h = no-begin _ _ r (at-most-not _ r es refl h) e
  begin-statement found Idle lanes (statement.Insert i) es r e h = no-begin _ _ r (insert-step-not found.stands true lanes found.look found.own i es r h) e
  begin-statement found (Open b) lanes (statement.Insert i) es r e h = no-begin _ _ r (insert-step-not found.stands false lanes found.look found.own i es r h) e
  begin-statement found (Failed b) lanes (statement.Insert i) es r e h = no-begin _ _ r (at-most-not _ r es refl h) e

  pub begin-step : (found : Found) (st : State) (lanes : Lanes) (p : Piece) (es : List EntryKind) (r : Reply) → is_begun r ≡ true
      → Step binds told found st lanes p es (Some r) → Begins st p
  begin-step found st lanes Blank es r e h = absurd h
  begin-step found st lanes Too_long es r e h = no-begin _ _ r (answers-not _ r es refl h) e
  begin-step found st lanes No_statement es r e h = no-begin _ _ r (at-most-not _ r es refl h) e
  begin-step found st lanes (Reads s) es r e h = begin-statement found st lanes s es r e h

-- ---- so a transaction that is open was open before, or began by this piece

by-reply : (b : ℕ) (m : ℕ) (r : Reply) (to : ℕ) → is_begun r ≡ false → state_by (Open b) m r ≡ Open to → Open b ≡ Open to
by-reply b m reply.Begun to n h = cc
by-reply b m reply.Committed to n h = cc
by-reply b m reply.RolledBack to n h = cc
by-reply b m (reply.Error why) to n h = cc
by-reply b m _ to n h = h

pub stays-open : (st : State) (m : ℕ) (p : Piece) (r : Reply) (to : ℕ) → is_begun r ≡ false → state_after st m p (Some r) ≡ Open to → st ≡ Open to
stays-open Idle m p reply.Begun to n h = cc
stays-open Idle m p reply.Committed to n h = h
stays-open Idle m p reply.RolledBack to n h = h
stays-open Idle m p _ to n h = h
stays-open (Failed b) m p reply.Begun to n h = cc
stays-open (Failed b) m p reply.Committed to n h = cc
stays-open (Failed b) m p reply.RolledBack to n h = cc
stays-open (Failed b) m p _ to n h = h
stays-open (Open b) m (Reads statement.Commit) r to n h = cc
stays-open (Open b) m _ r to n h = by-reply b m r to n h
