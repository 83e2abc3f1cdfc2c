-- What each session wrote over the history is its transcript over the log, where each session's deposits are its own.
use Rattle.std.proofs.Common.{◌+◌, ◌≡◌, ℕ, zero, suc, ◌-◌, ◌≤◌, Bool, true, false, ◌&&◌, Option, Some, None, is_none, List, [], ◌∷◌, ◌++◌, length, map, find, fold, take, drop, nat_lt, nat_le, ◌==◌, if◌then◌else◌, cond, refl, sym, ◌∙◌, ap, subst, arith, append_assoc}
use Rattle.std.specs.List.{AllZip}
use Rattle.hq_value.specs.declared.value.Value.{Value}
use Rattle.hq_value.specs.declared.kind.Kind.{Kind}
use Rattle.hq_value.specs.declared.table.Column.{Column}
use Rattle.hq_value.specs.Order.{SameBag}
use Rattle.hq_value.proofs.Order.{SameBag-append}
use Rattle.hq_sql.specs.declared.tree.Statement.{Statement}
use Rattle.hq_sql.specs.declared.tree.Statement.TheVariants as statement
use Rattle.hq_sql.specs.declared.tree.InsertStatement.{InsertStatement}
use Rattle.hq_sql.specs.declared.tree.SelectStatement.{SelectStatement}
use Rattle.hq_algebra.specs.declared.query.Query.{Query}
use Rattle.hq_meaning.specs.Mean.{Database, mean}
use Rattle.hq_meaning.proofs.MeanLaw.{mean-SameBag}
use Rattle.hq_value.specs.declared.entry.Entry.{Entry}
use Rattle.hq_value.specs.declared.entry.EntryKind.{EntryKind}
use Rattle.hq_value.specs.declared.entry.EntryKind.TheVariants as entry
use Rattle.hq_reply.specs.declared.reply.Reply.{Reply}
use Rattle.hq_value.specs.Tables.{Definition, column_refusal, with_column}
use Rattle.hq_value.specs.Bucket.{share}
use Rattle.hq_log.specs.Marks.{marks_after}
use Rattle.hq_block.specs.Block.{padded}
use Rattle.hq_bind.specs.Tables.{is_named, create_fault, with_added, if_added}
use Rattle.hq_history.specs.declared.noted.Noted.{Noted}
use Rattle.hq_history.specs.History.{entries_of}
use Rattle.hq_history.specs.Deposits.{tables_after}
use Rattle.hq_transcript.specs.Pieces.{Piece, Reads, piece_at, last_begin, is_snapshot}
use Rattle.hq_transcript.specs.Tables.{keys_of, Put, width, rows_in, database}
use Rattle.hq_transcript.specs.Binding.{Binder, Binding, Refused, Bound, Insertion, Values, Of_query, table_of, inserted, placed_answer}
use Rattle.hq_transcript.specs.Sights.{Sight, Replay, Found, start, sight_at, after, after_kind, created, changed, published, look_of, stands_before, own_from, own_puts, rows_put, put_of, put_by, found_by, visible, replay}
use Rattle.hq_transcript.specs.Step.{State, Idle, Open, Lanes, Choice, Course, Step, StatementStep, SelectStep, InsertStep, CreateStep, AlterStep, Follows, begun, over_nodes, look_part, reply_of, write_course, has_lane, select_course, insert_course, create_reply, alter_reply}
use Rattle.hq_transcript.specs.Transcript.{Standing, Run, behind, at_start, Ended, own}
use Rattle.hq_transcript.specs.History.{puts_in, after_noted, replay_history, IsOwn, AreOwn}
use Rattle.hq_transcript.specs.Same.{SameRows, SameSight, SameLook, SameFound}
use Rattle.std.proofs.lemmas.List.{append-nil}
use Rattle.hq_value.specs.Order.{row_cmp}
use Rattle.hq_value.specs.Sorting.{times}
use Rattle.hq_value.proofs.Sorting.{times-append}
use Rattle.hq_meaning.proofs.Bags.{SameBag-map}
use Rattle.hq_transcript.specs.History.{bucket_rows, grown_rows, rows_added, rows_left, HasRows}
use Rattle.hq_transcript.proofs.Buckets.{SameRows-HasRows, bucket_rows-wider}

sum_right : (a b c : ℕ) → a + (b + c) ≡ a + b + c
sum_right a b c = omega arith

-- ---- tables only grow

-- no table has fewer columns
abbrev Grows : List Definition → List Definition → Type 0
Grows xs ys = (t : ℕ) → width xs t ≤ width ys t

length-append-one : (columns : List Column) (column : Column) → length columns ≤ length (columns ++ column ∷ [])
length-append-one [] column = omega arith
length-append-one (x ∷ columns) column = omega (arith, length-append-one columns column)

Grows-refl : (xs : List Definition) → Grows xs xs
Grows-refl xs t = omega arith

Grows-last : (xs : List Definition) (table : Definition) → Grows xs (xs ++ table ∷ [])
Grows-last [] table t = omega arith
Grows-last (x ∷ xs) table zero = omega arith
Grows-last (x ∷ xs) table (suc t) = Grows-last xs table t

Grows-created : (xs : List Definition) (b : Binding Definition) → Grows xs (created xs b)
Grows-created xs (Refused why) = Grows-refl xs
Grows-created xs (Bound table) = by (is_none (create_fault xs table.name))
  where
    by : (b : Bool) → Grows xs (if b then xs ++ table ∷ [] else xs)
    by true = Grows-last xs table
    by false = Grows-refl xs

wider-if_added : (table : Definition) (column : Column) → length table.columns ≤ length (if_added table column).columns
wider-if_added table column = by (is_none (column_refusal table column))
  where
    by : (b : Bool) → length table.columns ≤ length (if b then with_column table column else table).columns
    by true = length-append-one table.columns column
    by false = omega arith

Grows-added : (xs : List Definition) (name : List ℕ) (column : Column) → Grows xs (with_added xs name column)
Grows-added [] name column t = omega arith
Grows-added (x ∷ xs) name column t = by (is_named name x) t (Grows-added xs name column)
  where
    by : (b : Bool) (t : ℕ) → Grows xs (with_added xs name column) → width (x ∷ xs) t ≤ width (if b then (if_added x column ∷ xs) else (x ∷ with_added xs name column)) t
    by true zero rest = wider-if_added x column
    by true (suc t) rest = omega arith
    by false zero rest = omega arith
    by false (suc t) rest = rest t

Grows-changed : (binds : Binder) (xs : List Definition) (p : Option Piece) → Grows xs (changed binds xs p)
Grows-changed binds xs None = Grows-refl xs
Grows-changed binds xs (Some (Reads (statement.Create c))) = Grows-created xs (binds.create c)
Grows-changed binds xs (Some (Reads (statement.Alter name column))) = Grows-added xs name column
Grows-changed binds xs (Some _) = Grows-refl xs

-- ---- the same rows

rows_in-append : (w : ℕ) (xs ys : List Put) (t : ℕ) → rows_in w (xs ++ ys) t ≡ rows_in w xs t ++ rows_in w ys t
rows_in-append w [] ys t = refl
rows_in-append w (x ∷ xs) ys t = by (x.table == t) (rows_in-append w xs ys t)
  where
    by : (b : Bool) → rows_in w (xs ++ ys) t ≡ rows_in w xs t ++ rows_in w ys t
        → (if b then map (padded w) x.rows ++ rows_in w (xs ++ ys) t else rows_in w (xs ++ ys) t) ≡ (if b then map (padded w) x.rows ++ rows_in w xs t else rows_in w xs t) ++ rows_in w ys t
    by true h = ap (λ l. map (padded w) x.rows ++ l) h ∙ sym (append_assoc (map (padded w) x.rows) (rows_in w xs t) (rows_in w ys t))
    by false h = h

SameRows-refl : (tables : List Definition) (xs : List Put) → SameRows tables xs xs
SameRows-refl tables xs t w le row = refl

SameRows-append : (tables : List Definition) (xs ys us vs : List Put) → SameRows tables xs ys → SameRows tables us vs → SameRows tables (xs ++ us) (ys ++ vs)
SameRows-append tables xs ys us vs h i t w le =
    rw (rows_in-append w xs us t) (rw (rows_in-append w ys vs t) (SameBag-append (rows_in w xs t) (rows_in w ys t) (rows_in w us t) (rows_in w vs t) (h t w le) (i t w le)))

SameRows-grows : (tables more : List Definition) (xs ys : List Put) → Grows tables more → SameRows tables xs ys → SameRows more xs ys
SameRows-grows tables more xs ys grows h t w le = h t w (omega (arith, grows t, le))

find_same : (p : ℕ → ℕ → Bool) (xs ys : List Sight) → AllZip SameSight xs ys
    → SameLook (find (λ (s : Sight). p s.session s.statement) xs) (find (λ (s : Sight). p s.session s.statement) ys)
find_same p [] [] h = tt
find_same p [] (y ∷ ys) h = absurd h
find_same p (x ∷ xs) [] h = absurd h
find_same p (x ∷ xs) (y ∷ ys) h = by (p x.session x.statement) (p y.session y.statement) (λ i. p (h.0.session i) (h.0.statement i)) (find_same p xs ys h.1)
  where
    by : (b c : Bool) → b ≡ c → SameLook (find (λ (s : Sight). p s.session s.statement) xs) (find (λ (s : Sight). p s.session s.statement) ys)
        → SameLook (cond b (Some x) (find (λ (s : Sight). p s.session s.statement) xs)) (cond c (Some y) (find (λ (s : Sight). p s.session s.statement) ys))
    by true true e rest = h.0
    by false false e rest = rest
    by true false e rest = cc
    by false true e rest = cc

look_same : (k b : ℕ) (snapshot : Bool) (m : ℕ) (xs ys : List Sight) → AllZip SameSight xs ys → SameLook (look_of k b snapshot m xs) (look_of k b snapshot m ys)
look_same k b snapshot m = find_same (λ session statement. (session == k) && (if snapshot then nat_lt b statement && nat_le statement m else statement == m))

-- what a statement sees
seen_same : (s o : Sight) → SameSight s o → (own : List Put) (t : ℕ) → SameBag (visible s own t) (database s.tables (o.puts ++ own) t)
seen_same s o same own t = SameRows-append s.tables s.puts o.puts own own same.puts (SameRows-refl s.tables own) t (width s.tables t) (omega arith)

inserted_same : (f : Insertion) (db other : Database) → ((t : ℕ) → SameBag (db t) (other t)) → inserted f db ≡ inserted f other
inserted_same (Values t rows) db other same = refl
inserted_same (Of_query t places query) db other same = ap (placed_answer places) (mean-SameBag query db other same)

put_same : (ts : List Definition) (b : Binding Insertion) (db other : Database) → ((t : ℕ) → SameBag (db t) (other t)) → put_of ts b db ≡ put_of ts b other
put_same ts (Refused why) db other same = refl
put_same ts (Bound f) db other same = ap (put_by (table_of f) (keys_of ts (table_of f))) (inserted_same f db other same)

module _ (binds : Binder) where
  insert_puts_same : (s o : Sight) → SameSight s o → (own : List Put) (i : InsertStatement)
      → put_of s.tables (binds.insert s.tables i) (visible s own) ≡ put_of o.tables (binds.insert o.tables i) (visible o own)
  insert_puts_same s o same own i =
      put_same s.tables (binds.insert s.tables i) (visible s own) (database s.tables (o.puts ++ own)) (seen_same s o same own)
      ∙ ap (λ ts. put_of ts (binds.insert ts i) (database ts (o.puts ++ own))) same.tables

  rows_put_same : (l o : Option Sight) → SameLook l o → (own : List Put) (p : Piece) → rows_put binds l own p ≡ rows_put binds o own p
  rows_put_same None None same own p = refl
  rows_put_same None (Some o) same own p = absurd same
  rows_put_same (Some l) None same own p = absurd same
  rows_put_same (Some l) (Some o) same own (Reads (statement.Insert i)) = insert_puts_same l o same own i
  rows_put_same (Some l) (Some o) same own _ = refl

  own_from_same : (k b : ℕ) (snapshot : Bool) (xs ys : List Sight) → AllZip SameSight xs ys → (m : ℕ) (left : List Piece) (own : List Put)
      → own_from binds k b snapshot xs m left own ≡ own_from binds k b snapshot ys m left own
  own_from_same k b snapshot xs ys same m [] own = refl
  own_from_same k b snapshot xs ys same m (p ∷ left) own =
      ap (λ puts. own_from binds k b snapshot xs (suc m) left (own ++ puts)) (rows_put_same _ _ (look_same k b snapshot m xs ys same) own p)
      ∙ own_from_same k b snapshot xs ys same (suc m) left _

  own_puts_same : (k : ℕ) (pieces : List Piece) (xs ys : List Sight) → AllZip SameSight xs ys → (b m : ℕ) → own_puts binds k pieces xs b m ≡ own_puts binds k pieces ys b m
  own_puts_same k pieces xs ys same zero m = refl
  own_puts_same k pieces xs ys same (suc b) m = own_from_same k (suc b) (is_snapshot (suc b) pieces) xs ys same (suc (suc b)) (take (m - suc (suc b)) (drop (suc b) pieces)) []

  published_same : (k : ℕ) (pieces : List Piece) (xs ys : List Sight) → AllZip SameSight xs ys → (m : ℕ) (p : Option Piece)
      → published binds k pieces xs m p ≡ published binds k pieces ys m p
  published_same k pieces xs ys same m None = refl
  published_same k pieces xs ys same m (Some (Reads statement.Commit)) = own_puts_same k pieces xs ys same (last_begin m pieces) m
  published_same k pieces xs ys same m (Some p) = rows_put_same _ _ (look_same k 0 false m xs ys same) [] p

  -- ---- a statement that finds the same may do the same

  select_same : (s o : Sight) → SameSight s o → (stands : Bool) (own : List Put) (choice : Choice) (b : Binding Query)
      → select_course stands s own choice b ≡ select_course stands o own choice b
  select_same s o same stands own choice (Refused why) = refl
  select_same s o same stands own choice (Bound q) =
      let means : mean q (visible s own) ≡ mean q (visible o own) =
      mean-SameBag q (visible s own) (database s.tables (o.puts ++ own)) (seen_same s o same own) ∙ ap (λ ts. mean q (database ts (o.puts ++ own))) same.tables in
      λ i. over_nodes (look_part stands) (same.up i) choice.answered (λ before. record { entries = before; answer = reply_of (means i) })

  insert_same : (s o : Sight) → SameSight s o → (stands idle : Bool) (lanes : Lanes) (own : List Put) (choice : Choice) (b : Binding Insertion)
      → insert_course stands idle lanes s own choice b ≡ insert_course stands idle lanes o own choice b
  insert_same s o same stands idle lanes own choice (Refused why) = refl
  insert_same s o same stands idle lanes own choice (Bound f) =
      let means : inserted f (visible s own) ≡ inserted f (visible o own) =
      inserted_same f (visible s own) (database s.tables (o.puts ++ own)) (seen_same s o same own) ∙ ap (λ ts. inserted f (database ts (o.puts ++ own))) same.tables in
      λ i. over_nodes (look_part stands) (same.up i) choice.answered (write_course (has_lane lanes (table_of f)) idle (same.tables i) (table_of f) choice.way (means i))

  module _ (told : Bool) where
    SelectStep_same : (stands : Bool) (l o : Option Sight) → SameLook l o → (own : List Put) (q : SelectStatement) (es : List EntryKind) (r : Reply)
        → SelectStep binds told stands l own q es r → SelectStep binds told stands o own q es r
    SelectStep_same stands None None same own q es r h = h
    SelectStep_same stands None (Some o) same own q es r h = absurd same
    SelectStep_same stands (Some l) None same own q es r h = absurd same
    SelectStep_same stands (Some l) (Some o) same own q es r h =
        let course : (choice : Choice) → select_course stands l own choice (binds.select l.tables q) ≡ select_course stands o own choice (binds.select o.tables q) =
        λ choice. select_same l o same stands own choice (binds.select l.tables q) ∙ ap (λ ts. select_course stands o own choice (binds.select ts q)) same.tables in
        subst (λ (up : List Bool). Follows told false up (λ choice. select_course stands o own choice (binds.select o.tables q)) es r) same.up
        (subst (λ (c : Choice → Course). Follows told false l.up c es r) (λ i choice. course choice i) h)

    InsertStep_same : (stands idle : Bool) (lanes : Lanes) (l o : Option Sight) → SameLook l o → (own : List Put) (i : InsertStatement) (es : List EntryKind) (r : Reply)
        → InsertStep binds told stands idle lanes l own i es r → InsertStep binds told stands idle lanes o own i es r
    InsertStep_same stands idle lanes None None same own i es r h = h
    InsertStep_same stands idle lanes None (Some o) same own i es r h = absurd same
    InsertStep_same stands idle lanes (Some l) None same own i es r h = absurd same
    InsertStep_same stands idle lanes (Some l) (Some o) same own i es r h =
        let course : (choice : Choice) → insert_course stands idle lanes l own choice (binds.insert l.tables i) ≡ insert_course stands idle lanes o own choice (binds.insert o.tables i) =
        λ choice. insert_same l o same stands idle lanes own choice (binds.insert l.tables i) ∙ ap (λ ts. insert_course stands idle lanes o own choice (binds.insert ts i)) same.tables in
        subst (λ (up : List Bool). Follows told idle up (λ choice. insert_course stands idle lanes o own choice (binds.insert o.tables i)) es r) same.up
        (subst (λ (c : Choice → Course). Follows told idle l.up c es r) (λ j choice. course choice j) h)

    CreateStep_same : (l o : Option Sight) → SameLook l o → (b : Binding Definition) (es : List EntryKind) (r : Reply) → CreateStep l b es r → CreateStep o b es r
    CreateStep_same l o same (Refused why) es r h = h
    CreateStep_same None None same (Bound table) es r h = h
    CreateStep_same None (Some o) same (Bound table) es r h = absurd same
    CreateStep_same (Some l) None same (Bound table) es r h = absurd same
    CreateStep_same (Some l) (Some o) same (Bound table) es r h = subst (λ ts. (es ≡ entry.Create ∷ []) × (r ≡ create_reply ts table)) same.tables h

    AlterStep_same : (l o : Option Sight) → SameLook l o → (name : List ℕ) (column : Column) (es : List EntryKind) (r : Reply) → AlterStep l name column es r → AlterStep o name column es r
    AlterStep_same None None same name column es r h = h
    AlterStep_same None (Some o) same name column es r h = absurd same
    AlterStep_same (Some l) None same name column es r h = absurd same
    AlterStep_same (Some l) (Some o) same name column es r h = subst (λ ts. (es ≡ entry.Alter ∷ []) × (r ≡ alter_reply ts name column)) same.tables h

    statement_same : (f g : Found) → SameFound f g → (state : State) (lanes : Lanes) (s : Statement) (es : List EntryKind) (r : Reply)
        → StatementStep binds told f state lanes s es r → StatementStep binds told g state lanes s es r
    statement_same f g same Idle lanes (statement.Create c) es r h = CreateStep_same f.change g.change same.change (binds.create c) es r h
    statement_same f g same Idle lanes (statement.Alter name column) es r h = AlterStep_same f.change g.change same.change name column es r h
    statement_same f g same Idle lanes (statement.Select q) es r h =
        subst (λ b. SelectStep binds told b g.look g.own q es r) same.stands (subst (λ own. SelectStep binds told f.stands g.look own q es r) same.own (SelectStep_same f.stands f.look g.look same.look f.own q es r h))
    statement_same f g same (Open b) lanes (statement.Select q) es r h =
        subst (λ b. SelectStep binds told b g.look g.own q es r) same.stands (subst (λ own. SelectStep binds told f.stands g.look own q es r) same.own (SelectStep_same f.stands f.look g.look same.look f.own q es r h))
    statement_same f g same Idle lanes (statement.Insert i) es r h =
        subst (λ b. InsertStep binds told b true lanes g.look g.own i es r) same.stands
        (subst (λ own. InsertStep binds told f.stands true lanes g.look own i es r) same.own (InsertStep_same f.stands true lanes f.look g.look same.look f.own i es r h))
    statement_same f g same (Open b) lanes (statement.Insert i) es r h =
        subst (λ b. InsertStep binds told b false lanes g.look g.own i es r) same.stands
        (subst (λ own. InsertStep binds told f.stands false lanes g.look own i es r) same.own (InsertStep_same f.stands false lanes f.look g.look same.look f.own i es r h))
    statement_same f g same _ lanes _ es r h = h

    pub step_same : (f g : Found) → SameFound f g → (state : State) (lanes : Lanes) (p : Piece) (es : List EntryKind) (a : Option Reply)
        → Step binds told f state lanes p es a → Step binds told g state lanes p es a
    step_same f g same state lanes (Reads s) es (Some r) h = statement_same f g same state lanes s es r h
    step_same f g same state lanes _ es _ h = h

    -- the same but for the order of rows
    record SameReplay (r o : Replay) : Type 0 where
      tables : r.tables ≡ o.tables
      puts : SameRows r.tables r.puts o.puts
      up : r.up ≡ o.up
      looks : AllZip SameSight r.looks o.looks
      changes : AllZip SameSight r.changes o.changes

    stands_same : (m : ℕ) (l o : Option Sight) → SameLook l o → stands_before m l ≡ stands_before m o
    stands_same m None None same = refl
    stands_same m None (Some o) same = absurd same
    stands_same m (Some l) None same = absurd same
    stands_same m (Some l) (Some o) same = ap (λ st. nat_lt st m) same.statement

    found_same : (k : ℕ) (pieces : List Piece) (r o : Replay) → SameReplay r o → (b m : ℕ) → SameFound (found_by binds k pieces r b m) (found_by binds k pieces o b m)
    found_same k pieces r o same b m =
        let look : SameLook (look_of k b (is_snapshot b pieces) m r.looks) (look_of k b (is_snapshot b pieces) m o.looks) = look_same k b (is_snapshot b pieces) m r.looks o.looks same.looks in
        record {
          look = look;
          stands = stands_same m _ _ look;
          change = find_same (λ session statement. (session == k) && (statement == m)) r.changes o.changes same.changes;
          own = own_puts_same k pieces r.looks o.looks same.looks b m;
        }

    run_same : (k : ℕ) (pieces : List Piece) (r o : Replay) (log : List Entry) → SameReplay r o → (s : Standing) (left : List Piece) (replies : List (Option Reply)) (end : Standing)
        → Run binds told k pieces r log s left replies end → Run binds told k pieces o log s left replies end
    run_same k pieces r o log same s [] [] end h = h
    run_same k pieces r o log same s [] (a ∷ replies) end h = absurd h
    run_same k pieces r o log same s (p ∷ left) [] end h = absurd h
    run_same k pieces r o log same s (p ∷ left) (a ∷ replies) end h = (
      step_same (found_by binds k pieces r (begun s.state) s.next) (found_by binds k pieces o (begun s.state) s.next) (found_same k pieces r o same (begun s.state) s.next) s.state s.lanes p _ a h.0,
      run_same k pieces r o log same (behind binds told k pieces r log s p a) left replies end h.1,
    )

    AllZip-push : (xs ys : List Sight) (x y : Sight) → AllZip SameSight xs ys → SameSight x y → AllZip SameSight (xs ++ x ∷ []) (ys ++ y ∷ [])
    AllZip-push [] [] x y h i = (i, tt)
    AllZip-push [] (v ∷ ys) x y h i = absurd h
    AllZip-push (u ∷ xs) [] x y h i = absurd h
    AllZip-push (u ∷ xs) (v ∷ ys) x y h i = (h.0, AllZip-push xs ys x y h.1 i)

    -- ---- over the whole history

    module _ (file_rows : List Kind → List ℕ → List (List Value)) (inputs : ℕ → List Piece) where
      abbrev piece_of : Noted → Option Piece
      piece_of n = piece_at n.entry.statement (inputs n.entry.session)

      sight_same : (r o : Replay) → SameReplay r o → (n : Noted) → SameSight (sight_at r n.entry) (sight_at o n.entry)
      sight_same r o same n = record { session = refl; statement = refl; tables = same.tables; up = same.up; puts = same.puts }

      -- the tables change alike
      tables_same : (r o : Replay) → SameReplay r o → (n : Noted) → tables_after r.tables n.deposit ≡ changed binds r.tables (piece_of n)
          → SameReplay (record r { tables = tables_after r.tables n.deposit; changes = r.changes ++ sight_at r n.entry ∷ [] })
          (record o { tables = changed binds o.tables (piece_of n); changes = o.changes ++ sight_at o n.entry ∷ [] })
      tables_same r o same n is_own =
          let grows : Grows r.tables (tables_after r.tables n.deposit) = subst (Grows r.tables) (sym is_own) (Grows-changed binds r.tables (piece_of n)) in
          record {
            puts = SameRows-grows r.tables (tables_after r.tables n.deposit) r.puts o.puts grows same.puts;
            up = same.up;
            looks = same.looks;
            tables = is_own ∙ ap (λ ts. changed binds ts (piece_of n)) same.tables;
            changes = AllZip-push r.changes o.changes (sight_at r n.entry) (sight_at o n.entry) same.changes (sight_same r o same n);
          }

      after_same : (r o : Replay) → SameReplay r o → (n : Noted) (kind : EntryKind) → IsOwn file_rows binds n.entry.session (inputs n.entry.session) r n kind
          → SameReplay (after_kind (tables_after r.tables n.deposit) (puts_in file_rows r.tables n.deposit) (sight_at r n.entry) r kind)
          (after_kind (changed binds o.tables (piece_of n)) (published binds n.entry.session (inputs n.entry.session) o.looks n.entry.statement (piece_of n)) (sight_at o n.entry) o kind)
      after_same r o same n entry.Look is_own =
          record {
            tables = same.tables;
            puts = same.puts;
            up = same.up;
            changes = same.changes;
            looks = AllZip-push r.looks o.looks (sight_at r n.entry) (sight_at o n.entry) same.looks (sight_same r o same n);
          }
      after_same r o same n entry.Create is_own = tables_same r o same n is_own
      after_same r o same n entry.Alter is_own = tables_same r o same n is_own
      after_same r o same n entry.Commit is_own =
          record {
            tables = same.tables;
            up = same.up;
            looks = same.looks;
            changes = same.changes;
            puts = SameRows-append r.tables r.puts o.puts _ _ same.puts
                (subst (λ q. SameRows r.tables (puts_in file_rows r.tables n.deposit) q)
                (published_same n.entry.session (inputs n.entry.session) r.looks o.looks same.looks n.entry.statement (piece_of n)) (SameRows-HasRows file_rows r.tables n.deposit _ is_own));
          }
      after_same r o same n kind is_own =
          record { tables = same.tables; puts = same.puts; looks = same.looks; changes = same.changes; up = ap (λ u. marks_after u kind) same.up }

      replay_same : (history : List Noted) (r o : Replay) → SameReplay r o → ((k : ℕ) → AreOwn file_rows binds k (inputs k) r history)
          → SameReplay (fold (after_noted file_rows) r history) (fold (after binds inputs) o (entries_of history))
      replay_same [] r o same own = same
      replay_same (n ∷ history) r o same own =
          replay_same history _ _ (after_same r o same n n.entry.kind ((own n.entry.session).0 refl)) (λ k. (own k).1)

      -- the replies over the history are those over the log and the inputs
      pub ended_from_history : (nodes : ℕ) (history : List Noted) → ((k : ℕ) → AreOwn file_rows binds k (inputs k) (start nodes) history)
          → (k : ℕ) (pieces : List Piece) (replies : List (Option Reply)) → Ended binds told k (replay_history file_rows nodes history) (entries_of history) pieces replies
          → Ended binds told k (replay binds inputs nodes (entries_of history)) (entries_of history) pieces replies
      ended_from_history nodes history own k pieces replies (end, (run, order), backs) =
          let same : SameReplay (replay_history file_rows nodes history) (replay binds inputs nodes (entries_of history)) =
          replay_same history (start nodes) (start nodes) (record { tables = refl; puts = SameRows-refl [] []; up = refl; looks = tt; changes = tt }) own in
          (end, (run_same k pieces _ _ (entries_of history) same at_start pieces replies end run, order), backs)

      -- ---- what the deposits leave is what is committed

      grows-one : (r : Replay) (n : Noted) (kind : EntryKind) → IsOwn file_rows binds n.entry.session (inputs n.entry.session) r n kind
          → Grows r.tables (after_kind (tables_after r.tables n.deposit) (puts_in file_rows r.tables n.deposit) (sight_at r n.entry) r kind).tables
      grows-one r n entry.Create own = subst (Grows r.tables) (sym own) (Grows-changed binds r.tables (piece_of n))
      grows-one r n entry.Alter own = subst (Grows r.tables) (sym own) (Grows-changed binds r.tables (piece_of n))
      grows-one r n _ own = Grows-refl r.tables

      grows-all : (history : List Noted) (r : Replay) → ((k : ℕ) → AreOwn file_rows binds k (inputs k) r history) → Grows r.tables (fold (after_noted file_rows) r history).tables
      grows-all [] r own t = Grows-refl r.tables t
      grows-all (n ∷ history) r own t =
          let one : width r.tables t ≤ width (after_noted file_rows r n).tables t = grows-one r n n.entry.kind ((own n.entry.session).0 refl) t in
          let rest : width (after_noted file_rows r n).tables t ≤ width (fold (after_noted file_rows) (after_noted file_rows r n) history).tables t = grows-all history (after_noted file_rows r n) (λ k. (own k).1) t in
          omega (arith, one, rest)

      bucket_rows-append : (w : ℕ) (xs ys : List Put) (t b : ℕ) → bucket_rows w (xs ++ ys) t b ≡ bucket_rows w xs t b ++ bucket_rows w ys t b
      bucket_rows-append w [] ys t b = refl
      bucket_rows-append w (x ∷ xs) ys t b = by (x.table == t) (bucket_rows-append w xs ys t b)
        where
          by : (c : Bool) → bucket_rows w (xs ++ ys) t b ≡ bucket_rows w xs t b ++ bucket_rows w ys t b
              → (if c then map (padded w) (share x.keys x.rows b) ++ bucket_rows w (xs ++ ys) t b else bucket_rows w (xs ++ ys) t b)
              ≡ (if c then map (padded w) (share x.keys x.rows b) ++ bucket_rows w xs t b else bucket_rows w xs t b) ++ bucket_rows w ys t b
          by true h = ap (λ l. map (padded w) (share x.keys x.rows b) ++ l) h ∙ sym (append_assoc (map (padded w) (share x.keys x.rows b)) (bucket_rows w xs t b) (bucket_rows w ys t b))
          by false h = h

      -- one entry
      left-one : (r o : Replay) → SameReplay r o → (n : Noted) (kind : EntryKind) → IsOwn file_rows binds n.entry.session (inputs n.entry.session) r n kind
          → (t b w : ℕ) → width r.tables t ≤ w → (rest : List (List Value))
          → SameBag (bucket_rows w o.puts t b ++ (map (padded w) (rows_added file_rows r.tables kind n.deposit t b) ++ rest))
          (bucket_rows w (after_kind (changed binds o.tables (piece_of n)) (published binds n.entry.session (inputs n.entry.session) o.looks n.entry.statement (piece_of n)) (sight_at o n.entry) o kind).puts t b ++ rest)
      left-one r o same n entry.Commit own t b w le rest row =
          let put : List Put = published binds n.entry.session (inputs n.entry.session) o.looks n.entry.statement (piece_of n) in
          let grown : List (List Value) = grown_rows file_rows r.tables n.deposit t b in
          let here : HasRows file_rows r.tables n.deposit put =
          subst (HasRows file_rows r.tables n.deposit) (published_same n.entry.session (inputs n.entry.session) r.looks o.looks same.looks n.entry.statement (piece_of n)) own in
          let alike : times row_cmp row (map (padded w) grown) ≡ times row_cmp row (bucket_rows w put t b) =
          SameBag-map (padded w) grown (bucket_rows (width r.tables t) put t b) (here.rows t b) row ∙ ap (times row_cmp row) (bucket_rows-wider (width r.tables t) w put t b le) in
          times-append row_cmp row (bucket_rows w o.puts t b) (map (padded w) grown ++ rest)
          ∙ (λ i. times row_cmp row (bucket_rows w o.puts t b) + (times-append row_cmp row (map (padded w) grown) rest ∙ ap (λ m. m + times row_cmp row rest) alike) i)
          ∙ sum_right (times row_cmp row (bucket_rows w o.puts t b)) (times row_cmp row (bucket_rows w put t b)) (times row_cmp row rest)
          ∙ sym (ap (times row_cmp row) (ap (λ l. l ++ rest) (bucket_rows-append w o.puts put t b))
          ∙ times-append row_cmp row (bucket_rows w o.puts t b ++ bucket_rows w put t b) rest
          ∙ ap (λ m. m + times row_cmp row rest) (times-append row_cmp row (bucket_rows w o.puts t b) (bucket_rows w put t b)))
      left-one r o same n _ own t b w le rest row = refl

      left-all : (history : List Noted) (r o : Replay) → SameReplay r o → ((k : ℕ) → AreOwn file_rows binds k (inputs k) r history)
          → (t b w : ℕ) → width (fold (after_noted file_rows) r history).tables t ≤ w
          → SameBag (bucket_rows w o.puts t b ++ rows_left file_rows w r history t b) (bucket_rows w (fold (after binds inputs) o (entries_of history)).puts t b)
      left-all [] r o same own t b w le row = ap (times row_cmp row) (append-nil (bucket_rows w o.puts t b))
      left-all (n ∷ history) r o same own t b w le row =
          let mine : IsOwn file_rows binds n.entry.session (inputs n.entry.session) r n n.entry.kind = (own n.entry.session).0 refl in
          let grows : width r.tables t ≤ width (fold (after_noted file_rows) r (n ∷ history)).tables t = grows-all (n ∷ history) r own t in
          left-one r o same n n.entry.kind mine t b w (omega (arith, grows, le)) (rows_left file_rows w (after_noted file_rows r n) history t b) row
          ∙ left-all history (after_noted file_rows r n) (after binds inputs o n.entry) (after_same r o same n n.entry.kind mine) (λ k. (own k).1) t b w le row

      -- at every width from the tables' own on
      pub left_are_committed : (nodes : ℕ) (history : List Noted) → ((k : ℕ) → AreOwn file_rows binds k (inputs k) (start nodes) history)
          → (t b w : ℕ) → width (replay_history file_rows nodes history).tables t ≤ w
          → SameBag (rows_left file_rows w (start nodes) history t b) (bucket_rows w (replay binds inputs nodes (entries_of history)).puts t b)
      left_are_committed nodes history own t b w le =
          left-all history (start nodes) (start nodes) (record { tables = refl; puts = SameRows-refl [] []; up = refl; looks = tt; changes = tt }) own t b w le

      -- and the tables, the marks and what was found are the same
      pub tables_are_defined : (nodes : ℕ) (history : List Noted) → ((k : ℕ) → AreOwn file_rows binds k (inputs k) (start nodes) history)
          → (replay_history file_rows nodes history).tables ≡ (replay binds inputs nodes (entries_of history)).tables
      tables_are_defined nodes history own =
          (replay_same history (start nodes) (start nodes) (record { tables = refl; puts = SameRows-refl [] []; up = refl; looks = tt; changes = tt }) own).tables
