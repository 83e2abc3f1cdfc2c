-- An error reply has no Commit entry.
use Rattle.std.proofs.Common.{◌≡◌, ℕ, Bool, true, false, ◌||◌, Option, Some, None, List, [], ◌∷◌, ◌++◌, map, length, if◌then◌else◌, refl, sym, ◌∙◌, ap, inl, inr}
use Rattle.std.specs.List.{list_any}
use Rattle.hq_value.specs.declared.table.Column.{Column}
use Rattle.hq_sql.specs.declared.tree.Statement.{Statement}
use Rattle.hq_sql.specs.declared.tree.Statement.TheVariants as statement
use Rattle.hq_sql.specs.declared.tree.InsertStatement.{InsertStatement}
use Rattle.hq_sql.specs.declared.tree.SelectStatement.{SelectStatement}
use Rattle.hq_algebra.specs.declared.query.Query.{Query}
use Rattle.hq_meaning.specs.Mean.{Answer, Rows, Numeric, mean}
use Rattle.hq_reply.specs.declared.fault.Fault.{Fault}
use Rattle.hq_reply.specs.declared.fault.Fault.TheVariants as fault
use Rattle.hq_value.specs.declared.entry.EntryKind.{EntryKind}
use Rattle.hq_value.specs.declared.entry.EntryKind.TheVariants as entry
use Rattle.hq_reply.specs.declared.reply.Reply.{Reply}
use Rattle.hq_reply.specs.declared.reply.Reply.TheVariants as reply
use Rattle.hq_transcript.specs.Pieces.{Piece, Blank, Too_long, No_statement, Reads}
use Rattle.hq_value.specs.Tables.{Definition}
use Rattle.hq_transcript.specs.Tables.{Put}
use Rattle.hq_transcript.specs.Binding.{Binder, Binding, Refused, Bound, Insertion, table_of, inserted, breaks_not_null}
use Rattle.hq_transcript.specs.Sights.{Sight, Found, visible}
use Rattle.hq_value.specs.Marks.{some_up}
use Rattle.hq_transcript.specs.Step.{State, Idle, Open, Failed, Lanes, Way, Lent, Swept, All_out, Choice, Course, Got, No_lane, Got_lane, Cutting, got, is_last, is_commit, mark_down, AreBacks, AreGivenBack, IsEarly, look_part, nodes_part, reply_of, has_some, over_nodes, written, write_course, select_course, insert_course, has_lane, Follows, CreateStep, AlterStep, CommitStep, SelectStep, InsertStep, StatementStep, Step}

abbrev None_in : List EntryKind → Type 0
None_in es = list_any is_commit es ≡ false

both_false : (a b : Bool) → (a || b) ≡ false → (a ≡ false) × (b ≡ false)
both_false true b h = cc
both_false false b h = (refl, h)

none-both : (xs ys : List EntryKind) → None_in xs → None_in ys → None_in (xs ++ ys)
none-both [] ys h i = i
none-both (x ∷ xs) ys h i =
    let parts : (is_commit x ≡ false) × None_in xs = both_false (is_commit x) (list_any is_commit xs) h in
    λ j. parts.0 j || none-both xs ys parts.1 i j

no_last : (e : EntryKind) → is_last e ≡ false → is_commit e ≡ false
no_last entry.Commit h = cc
no_last _ h = refl

none-unfinished : (es : List EntryKind) → list_any is_last es ≡ false → None_in es
none-unfinished [] h = refl
none-unfinished (e ∷ es) h =
    let parts : (is_last e ≡ false) × (list_any is_last es ≡ false) = both_false (is_last e) (list_any is_last es) h in
    λ j. no_last e parts.0 j || none-unfinished es parts.1 j

none-backs : (lanes : Lanes) (es : List EntryKind) → AreBacks lanes es → None_in es
none-backs [] [] h = refl
none-backs (lane ∷ lanes) (entry.Back t n clean ∷ es) h = none-backs lanes es h.2
none-backs [] (e ∷ es) h = absurd h
none-backs (lane ∷ lanes) _ h = absurd h

none-mark : (why : Fault) → None_in (mark_down why)
none-mark (fault.Host n) = refl
none-mark _ = refl

none-equal : (xs ys : List EntryKind) → xs ≡ ys → None_in ys → None_in xs
none-equal xs ys same h = ap (list_any is_commit) same ∙ h

none-given_back : (g : Got) (idle : Bool) (why : Fault) (es : List EntryKind) → AreGivenBack g idle why es → None_in es
none-given_back No_lane idle why es h = none-equal es [] h refl
none-given_back (Cutting t n) idle why es h = none-equal es (entry.Back t n false ∷ []) h.1 refl
none-given_back (Got_lane t n) true why es h = none-equal es (entry.Back t n h.0 ∷ []) h.1 refl
none-given_back (Got_lane t n) false why es h = none-equal es [] h refl

none-early : (told : Bool) (up : List Bool) (idle : Bool) (whole entries : List EntryKind) (r : Reply) → IsEarly told up idle whole entries r → None_in entries
none-early told up idle whole entries r early =
    none-equal entries (early.front ++ mark_down early.why ++ early.back) early.ends
    (none-both (early.front ++ mark_down early.why) early.back
    (none-both early.front (mark_down early.why) (none-unfinished early.front early.unfinished) (none-mark early.why))
    (none-given_back (got early.front) idle early.why early.back early.given_back))

none-marks : (ns : List ℕ) → None_in (map (λ n. entry.Mark n true) ns)
none-marks [] = refl
none-marks (n ∷ ns) = none-marks ns

none-look : (stands : Bool) → None_in (look_part stands)
none-look true = refl
none-look false = refl

none-nodes : (up : List Bool) (answered : List ℕ) → None_in (nodes_part up answered)
none-nodes up answered = by (some_up up)
  where
    by : (b : Bool) → None_in (if b then [] else map (λ n. entry.Mark n true) answered)
    by true = refl
    by false = none-marks answered

-- a course's error has no Commit
abbrev Is_clear : Course → Type 0
Is_clear c = (why : Fault) → c.answer ≡ reply.Error why → None_in c.entries

clear-over_nodes : (before : List EntryKind) (up : List Bool) (answered : List ℕ) (course : List EntryKind → Course) → None_in before
    → ((es : List EntryKind) → None_in es → Is_clear (course es)) → Is_clear (over_nodes before up answered course)
clear-over_nodes before up answered course none clear = by (some_up up || has_some answered)
  where
    by : (b : Bool) → Is_clear (if b then course (before ++ nodes_part up answered) else record { entries = before; answer = reply.Error fault.NoSegment })
    by true = clear (before ++ nodes_part up answered) (none-both before (nodes_part up answered) none (none-nodes up answered))
    by false = λ why e. none

clear-written : (has : Bool) (t : ℕ) (w : Way) (idle : Bool) (n : ℕ) (es : List EntryKind) → None_in es → Is_clear (written has t w idle n es)
clear-written false t All_out idle n es none why e = none-both es (entry.Full t ∷ []) none refl
clear-written false t (Lent m) idle n es none why e = cc
clear-written false t (Swept m) idle n es none why e = cc
clear-written true t w idle n es none why e = cc

clear-write : (has idle : Bool) (tables : List Definition) (t : ℕ) (w : Way) (a : Answer) (es : List EntryKind) → None_in es → Is_clear (write_course has idle tables t w a es)
clear-write has idle tables t w Numeric es none = λ why e. none
clear-write has idle tables t w (Rows []) es none = λ why e. none
clear-write has idle tables t w (Rows (row ∷ rows)) es none = by (breaks_not_null tables t (row ∷ rows))
  where
    by : (b : Bool) → Is_clear (if b then record { entries = es; answer = reply.Error fault.NullNotAllowed } else written has t w idle (length (row ∷ rows)) es)
    by true = λ why e. none
    by false = clear-written has t w idle (length (row ∷ rows)) es none

clear-select : (stands : Bool) (s : Sight) (own : List Put) (choice : Choice) (b : Binding Query) → Is_clear (select_course stands s own choice b)
clear-select stands s own choice (Refused why) = λ w e. none-look stands
clear-select stands s own choice (Bound q) = clear-over_nodes (look_part stands) s.up choice.answered (λ before. record { entries = before; answer = reply_of (mean q (visible s own)) }) (none-look stands) (λ es none why e. none)

clear-insert : (stands idle : Bool) (lanes : Lanes) (s : Sight) (own : List Put) (choice : Choice) (b : Binding Insertion) → Is_clear (insert_course stands idle lanes s own choice b)
clear-insert stands idle lanes s own choice (Refused why) = λ w e. none-look stands
clear-insert stands idle lanes s own choice (Bound f) =
    clear-over_nodes (look_part stands) s.up choice.answered (write_course (has_lane lanes (table_of f)) idle s.tables (table_of f) choice.way (inserted f (visible s own))) (none-look stands)
    (clear-write (has_lane lanes (table_of f)) idle s.tables (table_of f) choice.way (inserted f (visible s own)))

none-follows : (told idle : Bool) (up : List Bool) (course : Choice → Course) (es : List EntryKind) (why : Fault) → ((choice : Choice) → Is_clear (course choice))
    → Follows told idle up course es (reply.Error why) → None_in es
none-follows told idle up course es why clear (choice, asc, inl whole) = none-equal es (course choice).entries whole.0 (clear choice why (sym whole.1))
none-follows told idle up course es why clear (choice, asc, inr early) = none-early told up idle (course choice).entries es (reply.Error why) early

none-create : (l : Option Sight) (b : Binding Definition) (es : List EntryKind) (why : Fault) → CreateStep l b es (reply.Error why) → None_in es
none-create l (Refused w) es why h = none-equal es [] h.0 refl
none-create None (Bound table) es why h = none-equal es [] h.0 refl
none-create (Some s) (Bound table) es why h = none-equal es (entry.Create ∷ []) h.0 refl

none-alter : (l : Option Sight) (name : List ℕ) (column : Column) (es : List EntryKind) (why : Fault) → AlterStep l name column es (reply.Error why) → None_in es
none-alter None name column es why h = none-equal es [] h.0 refl
none-alter (Some s) name column es why h = none-equal es (entry.Alter ∷ []) h.0 refl

none-commit : (lanes : Lanes) (es : List EntryKind) (why : Fault) → CommitStep lanes es (reply.Error why) → None_in es
none-commit [] es why h = none-equal es [] h.0 refl
none-commit (lane ∷ lanes) es why (inl h) = cc
none-commit (lane ∷ lanes) es why (inr h) = none-backs (lane ∷ lanes) es h.0

module _ (binds : Binder) (told : Bool) where
  none-select : (stands : Bool) (l : Option Sight) (own : List Put) (q : SelectStatement) (es : List EntryKind) (why : Fault) → SelectStep binds told stands l own q es (reply.Error why) → None_in es
  none-select stands None own q es why h = none-equal es [] h.0 refl
  none-select stands (Some s) own q es why h =
      none-follows told false s.up (λ choice. select_course stands s own choice (binds.select s.tables q)) es why (λ choice. clear-select stands s own choice (binds.select s.tables q)) h

  none-insert : (stands idle : Bool) (lanes : Lanes) (l : Option Sight) (own : List Put) (i : InsertStatement) (es : List EntryKind) (why : Fault) → InsertStep binds told stands idle lanes l own i es (reply.Error why) → None_in es
  none-insert stands idle lanes None own i es why h = none-equal es [] h.0 refl
  none-insert stands idle lanes (Some s) own i es why h =
      none-follows told idle s.up (λ choice. insert_course stands idle lanes s own choice (binds.insert s.tables i)) es why (λ choice. clear-insert stands idle lanes s own choice (binds.insert s.tables i)) h

  none-statement : (f : Found) (state : State) (lanes : Lanes) (s : Statement) (es : List EntryKind) (why : Fault) → StatementStep binds told f state lanes s es (reply.Error why) → None_in es
  none-statement f Idle lanes (statement.Begin snapshot) es why h = none-equal es [] h.0 refl
  none-statement f (Open b) lanes (statement.Begin snapshot) es why h = none-equal es [] h.0 refl
  none-statement f (Failed b) lanes (statement.Begin snapshot) es why h = none-equal es [] h.0 refl
  none-statement f Idle lanes statement.Commit es why h = none-equal es [] h.0 refl
  none-statement f (Open b) lanes statement.Commit es why h = none-commit lanes es why h
  none-statement f (Failed b) lanes statement.Commit es why h = none-backs lanes es h.0
  none-statement f Idle lanes statement.Rollback es why h = none-equal es [] h.0 refl
  none-statement f (Open b) lanes statement.Rollback es why h = none-backs lanes es h.0
  none-statement f (Failed b) lanes statement.Rollback es why h = none-backs lanes es h.0
  none-statement f Idle lanes (statement.Create c) es why h = none-create f.change (binds.create c) es why h
  none-statement f (Open b) lanes (statement.Create c) es why h = none-equal es [] h.0 refl
  none-statement f (Failed b) lanes (statement.Create c) es why h = none-equal es [] h.0 refl
  none-statement f Idle lanes (statement.Alter name column) es why h = none-alter f.change name column es why h
  none-statement f (Open b) lanes (statement.Alter name column) es why h = none-equal es [] h.0 refl
  none-statement f (Failed b) lanes (statement.Alter name column) es why h = none-equal es [] h.0 refl
  none-statement f (Failed b) lanes (statement.Select q) es why h = none-equal es [] h.0 refl
  none-statement f Idle lanes (statement.Select q) es why h = none-select f.stands f.look f.own q es why h
  none-statement f (Open b) lanes (statement.Select q) es why h = none-select f.stands f.look f.own q es why h
  none-statement f (Failed b) lanes (statement.Insert i) es why h = none-equal es [] h.0 refl
  none-statement f Idle lanes (statement.Insert i) es why h = none-insert f.stands true lanes f.look f.own i es why h
  none-statement f (Open b) lanes (statement.Insert i) es why h = none-insert f.stands false lanes f.look f.own i es why h

  pub none-step : (f : Found) (state : State) (lanes : Lanes) (p : Piece) (es : List EntryKind) (why : Fault) → Step binds told f state lanes p es (Some (reply.Error why)) → list_any is_commit es ≡ false
  none-step f state lanes Blank es why h = absurd h
  none-step f state lanes Too_long es why h = none-equal es [] h.0 refl
  none-step f state lanes No_statement es why h = none-equal es [] h.0 refl
  none-step f state lanes (Reads s) es why h = none-statement f state lanes s es why h
