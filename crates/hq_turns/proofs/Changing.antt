-- CREATE TABLE and ALTER TABLE: what they ask, and what they answer.
use Rattle.std.proofs.Common.{◌≡◌, inl, inr, ◌+◌, ℕ, Bool, true, false, List, [], ◌∷◌, ◌++◌, Option, Some, None, refl, sym, ◌∙◌, ap, subst, arith, length}
use Rattle.std.proofs.lemmas.List.{append-nil}
use Rattle.std.proofs.lemmas.List.Sums.{fold_push}
use Rattle.hq_value.specs.Tables.{Definition}
use Rattle.hq_value.specs.declared.table.Column.{Column}
use Rattle.hq_value.specs.declared.kind.Kind.{Kind}
use Rattle.hq_value.specs.declared.value.Value.{Value}
use Rattle.hq_value.specs.declared.entry.EntryKind.{EntryKind}
use Rattle.hq_value.specs.declared.entry.EntryKind.TheVariants as entry
use Rattle.hq_history.specs.declared.noted.Noted.{Noted}
use Rattle.hq_history.specs.Deposits.{tables_left}
use Rattle.hq_sql.specs.declared.tree.Statement.{Statement}
use Rattle.hq_sql.specs.declared.tree.Statement.TheVariants as statement
use Rattle.hq_sql.specs.declared.tree.CreateStatement.{CreateStatement}
use Rattle.hq_catalog.specs.declared.ask.Ask.{Ask}
use Rattle.hq_catalog.specs.declared.ask.Ask.TheVariants as ask
use Rattle.hq_catalog.specs.declared.ask.Answer.{Answer}
use Rattle.hq_catalog.specs.declared.ask.Answer.TheVariants as answer
use Rattle.hq_catalog.specs.CatStep.{CatStep, noted}
use Rattle.hq_history.specs.declared.noted.Deposit.{Deposit}
use Rattle.hq_history.specs.declared.noted.Deposit.TheVariants as deposit
use Rattle.hq_txn.specs.Transactions.{Transaction}
use Rattle.hq_txn.specs.declared.state.TxnState.TheVariants as txn
use Rattle.hq_reply.specs.declared.fault.Fault.{Fault}
use Rattle.hq_reply.specs.declared.fault.Fault.TheVariants as fault
use Rattle.hq_reply.specs.declared.reply.Reply.{Reply}
use Rattle.hq_reply.specs.declared.reply.Reply.TheVariants as reply
use Rattle.hq_transcript.specs.Pieces.{Piece, Reads}
use Rattle.hq_transcript.specs.Binding.{Binder, Binding, Refused, Bound}
use Rattle.hq_transcript.specs.Sights.{Sight, Found}
use Rattle.hq_transcript.specs.Step.{State, Idle, Open, Failed, Lanes, lanes_by, lanes_after, Step, CreateStep, AlterStep, create_reply, alter_reply, state_after}
use Rattle.hq_turns.specs.Counts.{Counts, Later, IsCause, IsCaused, is_plain}
use Rattle.hq_turns.specs.Now.{Now, Heard, shown, sight_over}
use Rattle.hq_turns.specs.Held.{slots, Holds}
use Rattle.hq_turns.specs.Ends.{Does, Begins, IsAsBefore, Owes, Fails, txn_state, failed, state_behind, tailed}
use Rattle.hq_turns.specs.Asked.{AsksCreate, AsksAlter}
use Rattle.hq_turns.proofs.Counting.{later-by, tails-more}
use Rattle.hq_turns.proofs.Answering.{is-idle, is-open, is-failed, does-at, behind-at, fails-at, no-tails, as-before-later}
use Rattle.hq_turns.proofs.Hearing.{noted-one, noted-none, made, there, full, altered, no-table, too-many-columns, column-there}

idle-is-not-open : txn.Idle ≡ txn.Open → ⊥
idle-is-not-open h = cc

plus-none : (n : ℕ) → n + 0 ≡ n
plus-none n = omega arith

error-by-create : (st : State) (m : ℕ) (c : CreateStatement) (w : Fault) → state_after st m (Reads (statement.Create c)) (Some (reply.Error w)) ≡ failed st
error-by-create Idle m c w = refl
error-by-create (Open b) m c w = refl
error-by-create (Failed b) m c w = refl

error-by-alter : (st : State) (m : ℕ) (name : List ℕ) (column : Column) (w : Fault) → state_after st m (Reads (statement.Alter name column)) (Some (reply.Error w)) ≡ failed st
error-by-alter Idle m name column w = refl
error-by-alter (Open b) m name column w = refl
error-by-alter (Failed b) m name column w = refl

refused-by-text : (found : Option Sight) (why : Fault) → CreateStep found (Refused why) [] (reply.Error why)
refused-by-text None why = (refl, inl refl)
refused-by-text (Some sight) why = (refl, inl refl)

module _ (binds : Binder) (told : Bool) where
  -- ---- refused before they ask

  module _ (now : Now) (create : CreateStatement) (t : Transaction) (c : Counts) (b : Begins told now (Reads (statement.Create create)) t c) where
    pub create-in-open : t.state ≡ txn.Open → Fails binds told now fault.TransactionOpen false t c
    create-in-open h =
        let e = is-open now.state (sym b.before.state ∙ h) in
        fails-at binds told now (Reads (statement.Create create)) (Open e.0) [] fault.TransactionOpen t c b.piece e.1 b.before b.entries refl (refl, inl refl) (λ w. refl)

    pub create-in-failed : t.state ≡ txn.Failed → Fails binds told now fault.TransactionFailed false t c
    create-in-failed h =
        let e = is-failed now.state (sym b.before.state ∙ h) in
        fails-at binds told now (Reads (statement.Create create)) (Failed e.0) [] fault.TransactionFailed t c b.piece e.1 b.before b.entries refl (refl, inl refl) (λ w. refl)

    pub create-refused : (why : Fault) → t.state ≡ txn.Idle → is_plain why ≡ true → binds.create create ≡ Refused why → Fails binds told now why false t c
    create-refused why h plain refused =
        fails-at binds told now (Reads (statement.Create create)) Idle [] why t c b.piece (is-idle now.state (sym b.before.state ∙ h)) b.before b.entries plain
        (subst (λ x. CreateStep now.found.change x [] (reply.Error why)) (sym refused) (refused-by-text now.found.change why)) (λ w. refl)

    short : (f : Option Sight) (x : Binding Definition) → f ≡ None → CreateStep f x [] (reply.Error fault.NoMemory)
    short None (Refused why) h = (refl, inr refl)
    short (Some sight) (Refused why) h = (refl, inr refl)
    short None (Bound table) h = (refl, refl)
    short (Some sight) (Bound table) h = cc

    -- also where the text could not be read whole
    short-at : (st : State) → Step binds told now.found st now.lanes (Reads (statement.Create create)) [] (Some (reply.Error fault.NoMemory))
    short-at Idle = short now.found.change (binds.create create) b.change
    short-at (Open b) = (refl, inr refl)
    short-at (Failed b) = (refl, inr refl)

    pub create-short : Fails binds told now fault.NoMemory false t c
    create-short =
        fails-at binds told now (Reads (statement.Create create)) now.state [] fault.NoMemory t c b.piece refl b.before b.entries refl (short-at now.state)
        (λ w. error-by-create now.state now.number create w)

    pub asks-create : {F Z : Type 0} (a : Ask F Z) (table : Definition) (after : Transaction) → t.state ≡ txn.Idle → binds.create create ≡ Bound table → a ≡ ask.Create table
        → after ≡ t → AsksCreate binds told now a after c
    asks-create a table after h bound asked same = record {
      create = create;
      table = table;
      asked = asked;
      piece = b.piece;
      bound = bound;
      state = is-idle now.state (sym b.before.state ∙ h);
      entries = b.entries;
      change = b.change;
      before = subst (λ x. IsAsBefore told now x c) (sym same) b.before;
    }

  module _ (now : Now) (name : List ℕ) (column : Column) (t : Transaction) (c : Counts) (b : Begins told now (Reads (statement.Alter name column)) t c) where
    pub alter-in-open : t.state ≡ txn.Open → Fails binds told now fault.TransactionOpen false t c
    alter-in-open h =
        let e = is-open now.state (sym b.before.state ∙ h) in
        fails-at binds told now (Reads (statement.Alter name column)) (Open e.0) [] fault.TransactionOpen t c b.piece e.1 b.before b.entries refl (refl, inl refl) (λ w. refl)

    pub alter-in-failed : t.state ≡ txn.Failed → Fails binds told now fault.TransactionFailed false t c
    alter-in-failed h =
        let e = is-failed now.state (sym b.before.state ∙ h) in
        fails-at binds told now (Reads (statement.Alter name column)) (Failed e.0) [] fault.TransactionFailed t c b.piece e.1 b.before b.entries refl (refl, inl refl) (λ w. refl)

    short-alter : (f : Option Sight) → f ≡ None → AlterStep f name column [] (reply.Error fault.NoMemory)
    short-alter f h = subst (λ g. AlterStep g name column [] (reply.Error fault.NoMemory)) (sym h) (refl, refl)

    short-alter-at : (st : State) → Step binds told now.found st now.lanes (Reads (statement.Alter name column)) [] (Some (reply.Error fault.NoMemory))
    short-alter-at Idle = short-alter now.found.change b.change
    short-alter-at (Open b) = (refl, inr refl)
    short-alter-at (Failed b) = (refl, inr refl)

    pub alter-short : Fails binds told now fault.NoMemory false t c
    alter-short =
        fails-at binds told now (Reads (statement.Alter name column)) now.state [] fault.NoMemory t c b.piece refl b.before b.entries refl (short-alter-at now.state)
        (λ w. error-by-alter now.state now.number name column w)

    pub asks-alter : {F Z : Type 0} (a : Ask F Z) (after : Transaction) → t.state ≡ txn.Idle → a ≡ ask.Alter name column → after ≡ t → AsksAlter told now a after c
    asks-alter a after h asked same = record {
      name = name;
      column = column;
      asked = asked;
      piece = b.piece;
      state = is-idle now.state (sym b.before.state ∙ h);
      entries = b.entries;
      change = b.change;
      before = subst (λ x. IsAsBefore told now x c) (sym same) b.before;
    }

  -- ---- behind their entry

  module _ (file_rows : List Kind → List ℕ → List (List Value)) (nodes k : ℕ) where
    -- an entry that takes no lane, in an idle session
    with-entry : (now : Now) (before : List Noted) (kind : EntryKind) (d : Deposit) (t : Transaction) (c e : Counts) → IsAsBefore told now t c → now.state ≡ Idle → Later c e
        → (now.found.own ≡ (shown file_rows told nodes k now before (noted k now.number kind d)).found.own) → tailed (kind ∷ []) ≡ 0 → lanes_by (lanes_after now.lanes now.entries) kind ≡ lanes_after now.lanes now.entries
        → IsAsBefore told (shown file_rows told nodes k now before (noted k now.number kind d)) t e
    with-entry now before kind d t c e b idle later own none lanes = record {
      state = b.state;
      lanes = b.lanes ∙ sym (fold_push lanes_by now.lanes now.entries kind ∙ lanes);
      idle = λ h. ((b.idle h).0, sym own ∙ (b.idle h).1);
      own = λ h. absurd (idle-is-not-open (sym (b.state ∙ ap txn_state idle) ∙ h));
      tails = tails-more now.entries kind 0 none ∙ plus-none (tailed now.entries) ∙ b.tails;
      later = later-by now.counts c e b.later later;
    }

    module _ {F Z : Type 0} (now after : Now) (a : Ask F Z) (t : Transaction) (c e : Counts) (w : AsksCreate binds told now a t c) (later : Later c e) where
      -- the record behind a Create that left this
      abbrev behind-create : List Noted → Deposit → Now
      behind-create before d = shown file_rows told nodes k now before (noted k now.number entry.Create d)

      before-create : (before : List Noted) (d : Deposit) → IsAsBefore told (behind-create before d) t e
      before-create before d = with-entry now before entry.Create d t c e w.before w.state later refl refl refl

      create-step : (tables : List Definition) (sight : Sight) (r : Reply) → sight.tables ≡ tables → create_reply tables w.table ≡ r
          → CreateStep (Some sight) (binds.create w.create) (entry.Create ∷ []) r
      create-step tables sight r same h =
          subst (λ x. CreateStep (Some sight) x (entry.Create ∷ []) r) (sym w.bound) (refl, sym (ap (λ ts. create_reply ts w.table) same ∙ h))

      create-fails : (before : List Noted) (d : Deposit) (why : Fault) → after ≡ behind-create before d → is_plain why ≡ true
          → create_reply (tables_left before) w.table ≡ reply.Error why → Fails binds told after why false t e
      create-fails before d why is plain h =
          subst (λ (x : Now). Fails binds told x why false t e) (sym is)
          (fails-at binds told (behind-create before d) (Reads (statement.Create w.create)) Idle (entry.Create ∷ []) why t e w.piece w.state (before-create before d)
          (ap (λ xs. xs ++ entry.Create ∷ []) w.entries) plain
          (create-step (tables_left before) (sight_over file_rows told nodes k before now.number) (reply.Error why) refl h) (λ v. refl))

      create-made : (before : List Noted) (d : Deposit) → after ≡ behind-create before d → create_reply (tables_left before) w.table ≡ reply.Created
          → Owes binds told after false after.entries (Some reply.Created) t e
      create-made before d is h =
          let b : IsAsBefore told (behind-create before d) t e = before-create before d in
          subst (λ (x : Now). Owes binds told x false x.entries (Some reply.Created) t e) (sym is)
          (record {
            does = λ es none. does-at binds told (behind-create before d) (Reads (statement.Create w.create)) Idle (entry.Create ∷ []) ((now.entries ++ entry.Create ∷ []) ++ es) (Some reply.Created)
                w.piece w.state (ap (λ xs. (now.entries ++ entry.Create ∷ []) ++ xs) none ∙ append-nil (now.entries ++ entry.Create ∷ []) ∙ ap (λ xs. xs ++ entry.Create ∷ []) w.entries)
                (create-step (tables_left before) (sight_over file_rows told nodes k before now.number) reply.Created refl h);
            state = b.state ∙ ap txn_state w.state ∙ ap txn_state (sym (behind-at binds told (behind-create before d) (Reads (statement.Create w.create)) Idle Idle (Some reply.Created) w.piece w.state refl));
            lanes = b.lanes;
            own = λ g h. absurd (idle-is-not-open (sym (b.state ∙ ap txn_state w.state) ∙ h));
            cause = tt;
            tails = no-tails (now.entries ++ entry.Create ∷ []) (now.counts.stores 0) (e.stores 0) b.tails (b.later.stores 0);
            later = b.later;
          })

      step-of : (r : Answer F Z) (h : Heard file_rows told nodes k now a r after) → CatStep told nodes k now.number h.before (ask.Create w.table) h.history r
      step-of r h = subst (λ x. CatStep told nodes k now.number h.before x h.history r) w.asked h.step

      pub on-made : (number : ℕ) → Heard file_rows told nodes k now a (answer.Made number) after → Owes binds told after false after.entries (Some reply.Created) t e
      on-made number h =
          let s = step-of (answer.Made number) h in
          create-made h.before (deposit.Made w.table) (h.after_is ∙ noted-one file_rows told nodes k now h.before h.history (noted k now.number entry.Create (deposit.Made w.table)) s.0)
          (made (tables_left h.before) w.table s.2)

      pub on-exists : Heard file_rows told nodes k now a answer.Exists after → Fails binds told after fault.TableExists false t e
      on-exists h =
          let s = step-of answer.Exists h in
          create-fails h.before deposit.Nothing fault.TableExists (h.after_is ∙ noted-one file_rows told nodes k now h.before h.history (noted k now.number entry.Create deposit.Nothing) s.0) refl
          (there (tables_left h.before) w.table s.1)

      pub on-too-many : (many : ℕ) → Heard file_rows told nodes k now a (answer.TooManyTables many) after → Fails binds told after fault.TooManyTables false t e
      on-too-many many h =
          let s = step-of (answer.TooManyTables many) h in
          create-fails h.before deposit.Nothing fault.TooManyTables (h.after_is ∙ noted-one file_rows told nodes k now h.before h.history (noted k now.number entry.Create deposit.Nothing) s.0) refl
          (full (tables_left h.before) w.table s.1 s.2)

      -- nothing was noted
      still : (before : List Noted) → IsAsBefore told (record now { history = before }) t e
      still before = record {
        state = w.before.state;
        lanes = w.before.lanes;
        idle = w.before.idle;
        own = λ h. absurd (idle-is-not-open (sym (w.before.state ∙ ap txn_state w.state) ∙ h));
        tails = w.before.tails;
        later = later-by now.counts c e w.before.later later;
      }

      pub on-create-short : Heard file_rows told nodes k now a answer.NoMemory after → Fails binds told after fault.NoMemory false t e
      on-create-short h =
          subst (λ (x : Now). Fails binds told x fault.NoMemory false t e) (sym (h.after_is ∙ noted-none file_rows told nodes k now h.before h.history (step-of answer.NoMemory h)))
          (fails-at binds told (record now { history = h.before }) (Reads (statement.Create w.create)) Idle [] fault.NoMemory t e w.piece w.state (still h.before) w.entries refl
          (subst (λ f. CreateStep f (binds.create w.create) [] (reply.Error fault.NoMemory)) (sym w.change)
          (subst (λ x. CreateStep None x [] (reply.Error fault.NoMemory)) (sym w.bound) (refl, refl))) (λ v. refl))

    module _ {F Z : Type 0} (now after : Now) (a : Ask F Z) (t : Transaction) (c e : Counts) (w : AsksAlter told now a t c) (later : Later c e) where
      -- the record behind an Alter that left this
      abbrev behind-alter : List Noted → Deposit → Now
      behind-alter before d = shown file_rows told nodes k now before (noted k now.number entry.Alter d)

      before-alter : (before : List Noted) (d : Deposit) → IsAsBefore told (behind-alter before d) t e
      before-alter before d = with-entry now before entry.Alter d t c e w.before w.state later refl refl refl

      alter-step : (sight : Sight) (tables : List Definition) (r : Reply) → sight.tables ≡ tables → alter_reply tables w.name w.column ≡ r
          → AlterStep (Some sight) w.name w.column (entry.Alter ∷ []) r
      alter-step sight tables r same h = (refl, sym (ap (λ ts. alter_reply ts w.name w.column) same ∙ h))

      alter-fails : (before : List Noted) (why : Fault) → after ≡ behind-alter before deposit.Nothing → is_plain why ≡ true
          → alter_reply (tables_left before) w.name w.column ≡ reply.Error why → Fails binds told after why false t e
      alter-fails before why is plain h =
          subst (λ (x : Now). Fails binds told x why false t e) (sym is)
          (fails-at binds told (behind-alter before deposit.Nothing) (Reads (statement.Alter w.name w.column)) Idle (entry.Alter ∷ []) why t e w.piece w.state (before-alter before deposit.Nothing)
          (ap (λ xs. xs ++ entry.Alter ∷ []) w.entries) plain
          (alter-step (sight_over file_rows told nodes k before now.number) (tables_left before) (reply.Error why) refl h) (λ v. refl))

      alter-made : (before : List Noted) (d : Deposit) → after ≡ behind-alter before d → alter_reply (tables_left before) w.name w.column ≡ reply.Altered
          → Owes binds told after false after.entries (Some reply.Altered) t e
      alter-made before d is h =
          let b : IsAsBefore told (behind-alter before d) t e = before-alter before d in
          subst (λ (x : Now). Owes binds told x false x.entries (Some reply.Altered) t e) (sym is)
          (record {
            does = λ es none. does-at binds told (behind-alter before d) (Reads (statement.Alter w.name w.column)) Idle (entry.Alter ∷ []) ((now.entries ++ entry.Alter ∷ []) ++ es) (Some reply.Altered)
                w.piece w.state (ap (λ xs. (now.entries ++ entry.Alter ∷ []) ++ xs) none ∙ append-nil (now.entries ++ entry.Alter ∷ []) ∙ ap (λ xs. xs ++ entry.Alter ∷ []) w.entries)
                (alter-step (sight_over file_rows told nodes k before now.number) (tables_left before) reply.Altered refl h);
            state = b.state ∙ ap txn_state w.state ∙ ap txn_state (sym (behind-at binds told (behind-alter before d) (Reads (statement.Alter w.name w.column)) Idle Idle (Some reply.Altered) w.piece w.state refl));
            lanes = b.lanes;
            own = λ g h. absurd (idle-is-not-open (sym (b.state ∙ ap txn_state w.state) ∙ h));
            cause = tt;
            tails = no-tails (now.entries ++ entry.Alter ∷ []) (now.counts.stores 0) (e.stores 0) b.tails (b.later.stores 0);
            later = b.later;
          })

      step-by : (r : Answer F Z) (h : Heard file_rows told nodes k now a r after) → CatStep told nodes k now.number h.before (ask.Alter w.name w.column) h.history r
      step-by r h = subst (λ x. CatStep told nodes k now.number h.before x h.history r) w.asked h.step

      pub on-altered : (number : ℕ) → Heard file_rows told nodes k now a (answer.Altered number) after → Owes binds told after false after.entries (Some reply.Altered) t e
      on-altered number h =
          let s = step-by (answer.Altered number) h in
          alter-made h.before (deposit.Added number w.column) (h.after_is ∙ noted-one file_rows told nodes k now h.before h.history (noted k now.number entry.Alter (deposit.Added number w.column)) s.0)
          (altered (tables_left h.before) w.name w.column number s.1 s.2)

      pub on-no-table : Heard file_rows told nodes k now a answer.NoTable after → Fails binds told after fault.UndefinedTable false t e
      on-no-table h =
          let s = step-by answer.NoTable h in
          alter-fails h.before fault.UndefinedTable (h.after_is ∙ noted-one file_rows told nodes k now h.before h.history (noted k now.number entry.Alter deposit.Nothing) s.0) refl
          (no-table (tables_left h.before) w.name w.column s.1)

      pub on-too-many-columns : (many : ℕ) → Heard file_rows told nodes k now a (answer.TooManyColumns many) after → Fails binds told after fault.Limit false t e
      on-too-many-columns many h =
          let s = step-by (answer.TooManyColumns many) h in
          alter-fails h.before fault.Limit (h.after_is ∙ noted-one file_rows told nodes k now h.before h.history (noted k now.number entry.Alter deposit.Nothing) s.0) refl
          (too-many-columns (tables_left h.before) w.name w.column s.1.0 s.1.1 s.1.2)

      pub on-column-there : Heard file_rows told nodes k now a answer.ColumnThere after → Fails binds told after fault.DuplicateColumn false t e
      on-column-there h =
          let s = step-by answer.ColumnThere h in
          alter-fails h.before fault.DuplicateColumn (h.after_is ∙ noted-one file_rows told nodes k now h.before h.history (noted k now.number entry.Alter deposit.Nothing) s.0) refl
          (column-there (tables_left h.before) w.name w.column s.1.0 s.1.1 s.1.2)

      still-alter : (before : List Noted) → IsAsBefore told (record now { history = before }) t e
      still-alter before = record {
        state = w.before.state;
        lanes = w.before.lanes;
        idle = w.before.idle;
        own = λ h. absurd (idle-is-not-open (sym (w.before.state ∙ ap txn_state w.state) ∙ h));
        tails = w.before.tails;
        later = later-by now.counts c e w.before.later later;
      }

      pub on-alter-short : Heard file_rows told nodes k now a answer.NoMemory after → Fails binds told after fault.NoMemory false t e
      on-alter-short h =
          subst (λ (x : Now). Fails binds told x fault.NoMemory false t e) (sym (h.after_is ∙ noted-none file_rows told nodes k now h.before h.history (step-by answer.NoMemory h)))
          (fails-at binds told (record now { history = h.before }) (Reads (statement.Alter w.name w.column)) Idle [] fault.NoMemory t e w.piece w.state (still-alter h.before) w.entries refl
          (subst (λ f. AlterStep f w.name w.column [] (reply.Error fault.NoMemory)) (sym w.change) (refl, refl)) (λ v. refl))
