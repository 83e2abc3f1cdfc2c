-- The log settles each reply, but for faults from outside.
use Rattle.std.proofs.Common.{◌≡◌, ℕ, Bool, true, false, ◌||◌, Option, Some, None, List, [], ◌∷◌, ◌++◌, map, length, cond, if◌then◌else◌, refl, sym, ◌∙◌, ap, inl, inr, true≢false}
use Rattle.std.proofs.lemmas.List.{append-nil}
use Rattle.std.specs.List.{list_any}
use Rattle.hq_value.specs.declared.table.Column.{Column}
use Rattle.hq_sql.specs.declared.tree.Statement.{Statement}
use Rattle.hq_sql.specs.declared.tree.Statement.TheVariants as statement
use Rattle.hq_sql.specs.declared.tree.InsertStatement.{InsertStatement}
use Rattle.hq_sql.specs.declared.tree.SelectStatement.{SelectStatement}
use Rattle.hq_algebra.specs.declared.query.Query.{Query}
use Rattle.hq_meaning.specs.Mean.{Answer, Rows, Numeric, mean}
use Rattle.hq_reply.specs.declared.fault.Fault.{Fault}
use Rattle.hq_reply.specs.declared.fault.Fault.TheVariants as fault
use Rattle.hq_value.specs.declared.entry.EntryKind.{EntryKind}
use Rattle.hq_value.specs.declared.entry.EntryKind.TheVariants as entry
use Rattle.hq_reply.specs.declared.reply.Reply.{Reply}
use Rattle.hq_reply.specs.declared.reply.Reply.TheVariants as reply
use Rattle.hq_transcript.specs.Pieces.{Piece, Blank, Too_long, No_statement, Reads}
use Rattle.hq_value.specs.Tables.{Definition}
use Rattle.hq_transcript.specs.Tables.{Put}
use Rattle.hq_transcript.specs.Binding.{Binder, Binding, Refused, Bound, Insertion, table_of, inserted, breaks_not_null}
use Rattle.hq_transcript.specs.Sights.{Sight, Found, visible}
use Rattle.hq_value.specs.Marks.{some_up}
use Rattle.hq_transcript.specs.Step.{State, Idle, Open, Failed, Lanes, Way, Lent, Swept, All_out, Choice, Course, IsEarly, IsOutside, is_in_use, is_fault, look_part, reply_of, has_some, over_nodes, written, write_course, select_course, insert_course, has_lane, Follows, AnswersAtMost, IsUnlooked, CreateStep, AlterStep, CommitStep, SelectStep, InsertStep, StatementStep, Step}

is_full : EntryKind → Bool
is_full (entry.Full t) = true
is_full _ = false

is_mark : EntryKind → Bool
is_mark (entry.Mark n up) = true
is_mark _ = false

any-both : (p : EntryKind → Bool) (xs ys : List EntryKind) → list_any p (xs ++ ys) ≡ (list_any p xs || list_any p ys)
any-both p [] ys = refl
any-both p (x ∷ xs) ys = by (p x) (any-both p xs ys)
  where
    by : (b : Bool) → list_any p (xs ++ ys) ≡ (list_any p xs || list_any p ys) → (b || list_any p (xs ++ ys)) ≡ ((b || list_any p xs) || list_any p ys)
    by true h = refl
    by false h = h

or_false : (b : Bool) → (b || false) ≡ b
or_false true = refl
or_false false = refl

-- what a course answers where it isn't refused, by its entries: `given` unless fine node or fine lane is left
tell : List Bool → List EntryKind → Reply → Reply
tell up es given = if some_up up || list_any is_mark es then (if list_any is_full es then reply.Error fault.TooManyWriters else given) else reply.Error fault.NoSegment

-- behind any entries without Full, a course goes on as its entries tell, and adds fine Mark
record Goes_on (given : Reply) (course : List EntryKind → Course) : Type 0 where
  answer : (es : List EntryKind) → list_any is_full es ≡ false → (course es).answer ≡ (if list_any is_full (course es).entries then reply.Error fault.TooManyWriters else given)
  marks : (es : List EntryKind) → list_any is_mark (course es).entries ≡ list_any is_mark es

look_full : (stands : Bool) → list_any is_full (look_part stands) ≡ false
unfolding is_full
look_full true = refl
look_full false = refl

look_mark : (stands : Bool) → list_any is_mark (look_part stands) ≡ false
unfolding is_mark
look_mark true = refl
look_mark false = refl

marks_full : (ns : List ℕ) → list_any is_full (map (λ n. entry.Mark n true) ns) ≡ false
unfolding is_full
marks_full [] = refl
marks_full (n ∷ ns) = marks_full ns

told_by : (stands : Bool) (up : List Bool) (answered : List ℕ) (given : Reply) (course : List EntryKind → Course) → Goes_on given course
    → (over_nodes (look_part stands) up answered course).answer ≡ tell up (over_nodes (look_part stands) up answered course).entries given
unfolding tell is_mark
told_by stands up answered given course goes = by (some_up up) answered
  where
    by : (b : Bool) (ns : List ℕ)
        → (if b || has_some ns then course (look_part stands ++ (if b then [] else map (λ n. entry.Mark n true) ns)) else record { entries = look_part stands; answer = reply.Error fault.NoSegment }).answer
        ≡ (if b || list_any is_mark (if b || has_some ns then course (look_part stands ++ (if b then [] else map (λ n. entry.Mark n true) ns)) else record { entries = look_part stands; answer = reply.Error fault.NoSegment }).entries
        then (if list_any is_full (if b || has_some ns then course (look_part stands ++ (if b then [] else map (λ n. entry.Mark n true) ns)) else record { entries = look_part stands; answer = reply.Error fault.NoSegment }).entries then reply.Error fault.TooManyWriters else given)
        else reply.Error fault.NoSegment)
    by true ns = goes.answer (look_part stands ++ []) (ap (list_any is_full) (append-nil (look_part stands)) ∙ look_full stands)
    by false [] = ap (λ c. cond c (cond (list_any is_full (look_part stands)) (reply.Error fault.TooManyWriters) given) (reply.Error fault.NoSegment)) (sym (look_mark stands))
    by false (n ∷ ns) =
        let es : List EntryKind = look_part stands ++ map (λ m. entry.Mark m true) (n ∷ ns) in
        let none : list_any is_full es ≡ false = any-both is_full (look_part stands) (map (λ m. entry.Mark m true) (n ∷ ns)) ∙ (λ i. look_full stands i || marks_full (n ∷ ns) i) in
        let some : list_any is_mark (course es).entries ≡ true = goes.marks es ∙ any-both is_mark (look_part stands) (map (λ m. entry.Mark m true) (n ∷ ns)) ∙ ap (λ c. c || true) (look_mark stands) in
        goes.answer es none ∙ ap (λ c. cond c (cond (list_any is_full (course es).entries) (reply.Error fault.TooManyWriters) given) (reply.Error fault.NoSegment)) (sym some)

goes-plain : (given : Reply) → Goes_on given (λ before. record { entries = before; answer = given })
goes-plain given = record { answer = λ es none. ap (λ c. cond c (reply.Error fault.TooManyWriters) given) (sym none); marks = λ es. refl }

-- further entries that are neither Full nor Mark
goes-more : (given : Reply) (more : List EntryKind) → list_any is_full more ≡ false → list_any is_mark more ≡ false → Goes_on given (λ before. record { entries = before ++ more; answer = given })
goes-more given more f m = record {
  answer = λ es none. ap (λ c. cond c (reply.Error fault.TooManyWriters) given) (sym (any-both is_full es more ∙ (λ i. none i || f i)));
  marks = λ es. any-both is_mark es more ∙ ap (λ c. list_any is_mark es || c) m ∙ or_false (list_any is_mark es);
}

goes-two : (given : Reply) (one two : List EntryKind) → list_any is_full one ≡ false → list_any is_mark one ≡ false → list_any is_full two ≡ false → list_any is_mark two ≡ false
    → Goes_on given (λ before. record { entries = before ++ one ++ two; answer = given })
goes-two given one two f m f₂ m₂ = record {
  answer = λ es none. ap (λ c. cond c (reply.Error fault.TooManyWriters) given) (sym (any-both is_full (es ++ one) two ∙ (λ i. any-both is_full es one i || f₂ i) ∙ (λ i. (none i || f i) || false)));
  marks = λ es. any-both is_mark (es ++ one) two ∙ (λ i. any-both is_mark es one i || m₂ i) ∙ or_false (list_any is_mark es || list_any is_mark one) ∙ ap (λ c. list_any is_mark es || c) m ∙ or_false (list_any is_mark es);
}

goes-full : (given : Reply) (t : ℕ) → Goes_on given (λ before. record { entries = before ++ entry.Full t ∷ []; answer = reply.Error fault.TooManyWriters })
unfolding is_full is_mark
goes-full given t = record {
  answer = λ es none. ap (λ c. cond c (reply.Error fault.TooManyWriters) given) (sym (any-both is_full es (entry.Full t ∷ []) ∙ ap (λ c. c || true) none));
  marks = λ es. any-both is_mark es (entry.Full t ∷ []) ∙ or_false (list_any is_mark es);
}

commit_part : Bool → List EntryKind
commit_part idle = if idle then entry.Commit ∷ [] else []

commit_full : (idle : Bool) → list_any is_full (if idle then entry.Commit ∷ [] else []) ≡ false
unfolding is_full
commit_full true = refl
commit_full false = refl

commit_mark : (idle : Bool) → list_any is_mark (if idle then entry.Commit ∷ [] else []) ≡ false
unfolding is_mark
commit_mark true = refl
commit_mark false = refl

goes-written : (has : Bool) (t : ℕ) (w : Way) (idle : Bool) (n : ℕ) → Goes_on (reply.Inserted n) (written has t w idle n)
unfolding is_full is_mark
goes-written false t All_out idle n = goes-full (reply.Inserted n) t
goes-written false t (Lent m) idle n = goes-two (reply.Inserted n) (entry.Lend t m ∷ []) (if idle then entry.Commit ∷ [] else []) refl refl (commit_full idle) (commit_mark idle)
goes-written false t (Swept m) idle n = goes-two (reply.Inserted n) (entry.Sweep t m ∷ entry.Adopt t m ∷ []) (if idle then entry.Commit ∷ [] else []) refl refl (commit_full idle) (commit_mark idle)
goes-written true t w idle n = goes-two (reply.Inserted n) [] (if idle then entry.Commit ∷ [] else []) refl refl (commit_full idle) (commit_mark idle)

-- the reply to rows, where a lane is found
inserts : List Definition → ℕ → Answer → Reply
inserts tables t Numeric = reply.Error fault.NumericRange
inserts tables t (Rows []) = reply.Inserted 0
inserts tables t (Rows (row ∷ rows)) = if breaks_not_null tables t (row ∷ rows) then reply.Error fault.NullNotAllowed else reply.Inserted (length (row ∷ rows))

goes-write : (has idle : Bool) (tables : List Definition) (t : ℕ) (w : Way) (a : Answer) → Goes_on (inserts tables t a) (write_course has idle tables t w a)
unfolding inserts
goes-write has idle tables t w Numeric = goes-plain (reply.Error fault.NumericRange)
goes-write has idle tables t w (Rows []) = goes-plain (reply.Inserted 0)
goes-write has idle tables t w (Rows (row ∷ rows)) = by (breaks_not_null tables t (row ∷ rows))
  where
    by : (b : Bool) → Goes_on (if b then reply.Error fault.NullNotAllowed else reply.Inserted (length (row ∷ rows)))
        (λ before. if b then record { entries = before; answer = reply.Error fault.NullNotAllowed } else written has t w idle (length (row ∷ rows)) before)
    by true = goes-plain (reply.Error fault.NullNotAllowed)
    by false = goes-written has t w idle (length (row ∷ rows))

-- ---- the entries of a course settle its answer

Settles : (Choice → Course) → Type 0
Settles course = (x y : Choice) → (course x).entries ≡ (course y).entries → (course x).answer ≡ (course y).answer

settles-told : (up : List Bool) (given : Reply) (course : Choice → Course) → ((x : Choice) → (course x).answer ≡ tell up (course x).entries given) → Settles course
unfolding Settles
settles-told up given course h x y same = h x ∙ ap (λ es. tell up es given) same ∙ sym (h y)

settles-select : (stands : Bool) (s : Sight) (own : List Put) (b : Binding Query) → Settles (λ choice. select_course stands s own choice b)
unfolding Settles
settles-select stands s own (Refused why) = λ x y same. refl
settles-select stands s own (Bound q) =
    settles-told s.up (reply_of (mean q (visible s own))) (λ choice. select_course stands s own choice (Bound q))
    (λ x. told_by stands s.up x.answered (reply_of (mean q (visible s own))) (λ before. record { entries = before; answer = reply_of (mean q (visible s own)) })
    (goes-plain (reply_of (mean q (visible s own)))))

settles-insert : (stands idle : Bool) (lanes : Lanes) (s : Sight) (own : List Put) (b : Binding Insertion) → Settles (λ choice. insert_course stands idle lanes s own choice b)
unfolding Settles
settles-insert stands idle lanes s own (Refused why) = λ x y same. refl
settles-insert stands idle lanes s own (Bound f) =
    let a : Answer = inserted f (visible s own) in
    settles-told s.up (inserts s.tables (table_of f) a) (λ choice. insert_course stands idle lanes s own choice (Bound f))
    (λ x. told_by stands s.up x.answered (inserts s.tables (table_of f) a) (write_course (has_lane lanes (table_of f)) idle s.tables (table_of f) x.way a)
    (goes-write (has_lane lanes (table_of f)) idle s.tables (table_of f) x.way a))

-- ---- two replies for the same entries

outside_fault : (told : Bool) (used : ℕ → Bool) (why : Fault) → IsOutside told used why → is_fault (reply.Error why) ≡ true
outside_fault told used fault.Store h = refl
outside_fault told used fault.BadBlock h = refl
outside_fault told used fault.NoMemory h = refl
outside_fault told used (fault.Host n) h = refl
outside_fault told used (fault.LinkLost n) h = refl
outside_fault told used (fault.LinkFailed n) h = refl
outside_fault told used _ h = absurd h

pub not_early : (told : Bool) (up : List Bool) (idle : Bool) (whole es : List EntryKind) (r : Reply) → IsEarly told up idle whole es r → is_fault r ≡ false → ⊥
not_early told up idle whole es r early fine =
    true≢false (sym (outside_fault told (is_in_use up early.front) early.why early.outside) ∙ ap is_fault (sym early.answer) ∙ fine)

settled-follows : (told idle : Bool) (up : List Bool) (course : Choice → Course) (es : List EntryKind) (a b : Reply) → Settles course
    → Follows told idle up course es a → Follows told idle up course es b → is_fault a ≡ false → is_fault b ≡ false → a ≡ b
unfolding Settles
settled-follows told idle up course es a b settles (x, asc, inl h) (y, asc₂, inl i) fine no₂ = h.1 ∙ settles x y (sym h.0 ∙ i.0) ∙ sym i.1
settled-follows told idle up course es a b settles (x, asc, inr early) other fine no₂ = absurd (not_early told up idle (course x).entries es a early fine)
settled-follows told idle up course es a b settles (x, asc, inl h) (y, asc₂, inr early) fine no₂ = absurd (not_early told up idle (course y).entries es b early no₂)

-- at most the reply given
settled-most : (given : Reply) (es : List EntryKind) (a : Reply) → AnswersAtMost given es a → is_fault a ≡ false → a ≡ given
settled-most given es a (none, inl same) fine = same
settled-most given es a (none, inr want) fine = absurd (true≢false (ap is_fault (sym want) ∙ fine))

settled-unlooked : (es : List EntryKind) (a : Reply) → IsUnlooked es a → is_fault a ≡ false → ⊥
settled-unlooked es a h fine = true≢false (ap is_fault (sym h.1) ∙ fine)

settled-commit : (lanes : Lanes) (es : List EntryKind) (a : Reply) → CommitStep lanes es a → is_fault a ≡ false → a ≡ reply.Committed
settled-commit [] es a h fine = h.1
settled-commit (lane ∷ lanes) es a (inl h) fine = h.1
settled-commit (lane ∷ lanes) es a (inr (backs, inl store)) fine = absurd (true≢false (ap is_fault (sym store) ∙ fine))
settled-commit (lane ∷ lanes) es a (inr (backs, inr want)) fine = absurd (true≢false (ap is_fault (sym want) ∙ fine))

module _ (binds : Binder) (told : Bool) where
  settled-create : (l : Option Sight) (b : Binding Definition) (es : List EntryKind) (a c : Reply) → CreateStep l b es a → CreateStep l b es c → is_fault a ≡ false → is_fault c ≡ false → a ≡ c
  settled-create l (Refused why) es a c h i fine no₂ = settled-most (reply.Error why) es a h fine ∙ sym (settled-most (reply.Error why) es c i no₂)
  settled-create None (Bound table) es a c h i fine no₂ = absurd (settled-unlooked es a h fine)
  settled-create (Some s) (Bound table) es a c h i fine no₂ = h.1 ∙ sym i.1

  settled-alter : (l : Option Sight) (name : List ℕ) (column : Column) (es : List EntryKind) (a c : Reply) → AlterStep l name column es a → AlterStep l name column es c → is_fault a ≡ false → is_fault c ≡ false → a ≡ c
  settled-alter None name column es a c h i fine no₂ = absurd (settled-unlooked es a h fine)
  settled-alter (Some s) name column es a c h i fine no₂ = h.1 ∙ sym i.1

  settled-select : (stands : Bool) (l : Option Sight) (own : List Put) (q : SelectStatement) (es : List EntryKind) (a c : Reply)
      → SelectStep binds told stands l own q es a → SelectStep binds told stands l own q es c → is_fault a ≡ false → is_fault c ≡ false → a ≡ c
  settled-select stands None own q es a c h i fine no₂ = absurd (settled-unlooked es a h fine)
  settled-select stands (Some s) own q es a c h i fine no₂ =
      settled-follows told false s.up (λ choice. select_course stands s own choice (binds.select s.tables q)) es a c (settles-select stands s own (binds.select s.tables q)) h i fine no₂

  settled-insert : (stands idle : Bool) (lanes : Lanes) (l : Option Sight) (own : List Put) (j : InsertStatement) (es : List EntryKind) (a c : Reply)
      → InsertStep binds told stands idle lanes l own j es a → InsertStep binds told stands idle lanes l own j es c → is_fault a ≡ false → is_fault c ≡ false → a ≡ c
  settled-insert stands idle lanes None own j es a c h i fine no₂ = absurd (settled-unlooked es a h fine)
  settled-insert stands idle lanes (Some s) own j es a c h i fine no₂ =
      settled-follows told idle s.up (λ choice. insert_course stands idle lanes s own choice (binds.insert s.tables j)) es a c (settles-insert stands idle lanes s own (binds.insert s.tables j)) h i fine no₂

  settled-statement : (f : Found) (state : State) (lanes : Lanes) (s : Statement) (es : List EntryKind) (a c : Reply)
      → StatementStep binds told f state lanes s es a → StatementStep binds told f state lanes s es c → is_fault a ≡ false → is_fault c ≡ false → a ≡ c
  settled-statement f Idle lanes (statement.Begin snapshot) es a c h i fine no₂ = h.1 ∙ sym i.1
  settled-statement f (Open b) lanes (statement.Begin snapshot) es a c h i fine no₂ = h.1 ∙ sym i.1
  settled-statement f (Failed b) lanes (statement.Begin snapshot) es a c h i fine no₂ = h.1 ∙ sym i.1
  settled-statement f Idle lanes statement.Commit es a c h i fine no₂ = h.1 ∙ sym i.1
  settled-statement f (Open b) lanes statement.Commit es a c h i fine no₂ = settled-commit lanes es a h fine ∙ sym (settled-commit lanes es c i no₂)
  settled-statement f (Failed b) lanes statement.Commit es a c h i fine no₂ = h.1 ∙ sym i.1
  settled-statement f Idle lanes statement.Rollback es a c h i fine no₂ = h.1 ∙ sym i.1
  settled-statement f (Open b) lanes statement.Rollback es a c h i fine no₂ = h.1 ∙ sym i.1
  settled-statement f (Failed b) lanes statement.Rollback es a c h i fine no₂ = h.1 ∙ sym i.1
  settled-statement f Idle lanes (statement.Create t) es a c h i fine no₂ = settled-create f.change (binds.create t) es a c h i fine no₂
  settled-statement f (Open b) lanes (statement.Create t) es a c h i fine no₂ = settled-most (reply.Error fault.TransactionOpen) es a h fine ∙ sym (settled-most (reply.Error fault.TransactionOpen) es c i no₂)
  settled-statement f (Failed b) lanes (statement.Create t) es a c h i fine no₂ = settled-most (reply.Error fault.TransactionFailed) es a h fine ∙ sym (settled-most (reply.Error fault.TransactionFailed) es c i no₂)
  settled-statement f Idle lanes (statement.Alter name column) es a c h i fine no₂ = settled-alter f.change name column es a c h i fine no₂
  settled-statement f (Open b) lanes (statement.Alter name column) es a c h i fine no₂ = settled-most (reply.Error fault.TransactionOpen) es a h fine ∙ sym (settled-most (reply.Error fault.TransactionOpen) es c i no₂)
  settled-statement f (Failed b) lanes (statement.Alter name column) es a c h i fine no₂ = settled-most (reply.Error fault.TransactionFailed) es a h fine ∙ sym (settled-most (reply.Error fault.TransactionFailed) es c i no₂)
  settled-statement f (Failed b) lanes (statement.Select q) es a c h i fine no₂ = settled-most (reply.Error fault.TransactionFailed) es a h fine ∙ sym (settled-most (reply.Error fault.TransactionFailed) es c i no₂)
  settled-statement f Idle lanes (statement.Select q) es a c h i fine no₂ = settled-select f.stands f.look f.own q es a c h i fine no₂
  settled-statement f (Open b) lanes (statement.Select q) es a c h i fine no₂ = settled-select f.stands f.look f.own q es a c h i fine no₂
  settled-statement f (Failed b) lanes (statement.Insert j) es a c h i fine no₂ = settled-most (reply.Error fault.TransactionFailed) es a h fine ∙ sym (settled-most (reply.Error fault.TransactionFailed) es c i no₂)
  settled-statement f Idle lanes (statement.Insert j) es a c h i fine no₂ = settled-insert f.stands true lanes f.look f.own j es a c h i fine no₂
  settled-statement f (Open b) lanes (statement.Insert j) es a c h i fine no₂ = settled-insert f.stands false lanes f.look f.own j es a c h i fine no₂

  pub settled-step : (f : Found) (state : State) (lanes : Lanes) (p : Piece) (es : List EntryKind) (a c : Reply)
      → Step binds told f state lanes p es (Some a) → Step binds told f state lanes p es (Some c) → is_fault a ≡ false → is_fault c ≡ false → a ≡ c
  settled-step f state lanes Blank es a c h i fine no₂ = absurd h
  settled-step f state lanes Too_long es a c h i fine no₂ = h.1 ∙ sym i.1
  settled-step f state lanes No_statement es a c h i fine no₂ = settled-most (reply.Error fault.Syntax) es a h fine ∙ sym (settled-most (reply.Error fault.Syntax) es c i no₂)
  settled-step f state lanes (Reads s) es a c h i fine no₂ = settled-statement f state lanes s es a c h i fine no₂
