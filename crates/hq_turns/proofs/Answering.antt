-- Pieces that are answered at once, and transactions that end.
use Rattle.std.proofs.Common.{◌≡◌, ◌⊎◌, inl, inr, ◌<◌, ◌≤◌, ◌+◌, ℕ, Bool, true, false, List, [], ◌∷◌, ◌++◌, Option, Some, None, refl, sym, ◌∙◌, ap, subst, arith, length, map, IsTrue}
use Rattle.std.proofs.lemmas.List.{append-nil}
use Rattle.std.proofs.lemmas.List.Sums.{fold_push}
use Rattle.hq_value.specs.Causes.{Rose, RoseBy}
use Rattle.hq_value.specs.Tables.{Definition}
use Rattle.hq_value.specs.declared.kind.Kind.{Kind}
use Rattle.hq_value.specs.declared.entry.EntryKind.{EntryKind}
use Rattle.hq_value.specs.declared.entry.EntryKind.TheVariants as entry
use Rattle.hq_history.specs.Deposits.{tables_left}
use Rattle.hq_block.specs.Block.{FileRows}
use Rattle.hq_sql.specs.declared.tree.Statement.{Statement}
use Rattle.hq_sql.specs.declared.tree.Statement.TheVariants as statement
use Rattle.hq_sql.specs.declared.tree.InsertStatement.{InsertStatement}
use Rattle.hq_lane.specs.Lanes.{LaneState}
use Rattle.hq_catalog.specs.declared.ask.Ask.{Ask}
use Rattle.hq_txn.specs.Transactions.{Transaction}
use Rattle.hq_txn.specs.declared.state.TxnState.{TxnState}
use Rattle.hq_txn.specs.declared.state.TxnState.TheVariants as txn
use Rattle.hq_reply.specs.declared.fault.Fault.{Fault}
use Rattle.hq_reply.specs.declared.fault.Fault.TheVariants as fault
use Rattle.hq_reply.specs.declared.reply.Reply.{Reply}
use Rattle.hq_reply.specs.declared.reply.Reply.TheVariants as reply
use Rattle.hq_transcript.specs.Pieces.{Piece, Blank, Too_long, No_statement, Reads}
use Rattle.hq_transcript.specs.Tables.{Put}
use Rattle.hq_transcript.specs.Binding.{Binder}
use Rattle.hq_transcript.specs.Sights.{Sight, Found, rows_put}
use Rattle.hq_transcript.specs.Step.{State, Idle, Open, Failed, Lanes, lanes_by, lanes_after, AreBacks, Step, state_after, mark_down}
use Rattle.hq_turns.specs.Counts.{Counts, Later, IsCause, IsCaused, is_plain}
use Rattle.hq_turns.specs.Now.{Now}
use Rattle.hq_turns.specs.Held.{slots, Holds}
use Rattle.hq_turns.specs.Ends.{Does, DoesBy, Begins, Closes, IsAsBefore, Owes, Fails, txn_state, failed, state_by_piece, state_behind, tailed, put_by_piece}
use Rattle.hq_turns.specs.Asked.{AsksAtEnd, entry_of}
use Rattle.hq_turns.proofs.Counting.{rose-by-none, rose-by-later, later-by, cause-later, plain-cause, tails-more}

-- ---- states

pub is-idle : (st : State) → txn_state st ≡ txn.Idle → st ≡ Idle
is-idle Idle h = refl
is-idle (Open b) h = cc
is-idle (Failed b) h = cc

pub is-open : (st : State) → txn_state st ≡ txn.Open → (b : ℕ) × (st ≡ Open b)
is-open Idle h = cc
is-open (Open b) h = (b, refl)
is-open (Failed b) h = cc

pub is-failed : (st : State) → txn_state st ≡ txn.Failed → (b : ℕ) × (st ≡ Failed b)
is-failed Idle h = cc
is-failed (Open b) h = cc
is-failed (Failed b) h = (b, refl)

idle-is-not-open : txn.Idle ≡ txn.Open → ⊥
idle-is-not-open h = cc

-- ---- faults

pub plain-mark : (why : Fault) → is_plain why ≡ true → mark_down why ≡ []
plain-mark (fault.Host n) h = cc
plain-mark _ h = refl

plain-host : (why : Fault) (n : ℕ) → is_plain why ≡ true → why ≡ fault.Host n → ⊥
plain-host why n h e = not-plain (sym (ap is_plain e) ∙ h)
  where
    not-plain : false ≡ true → ⊥
    not-plain h = cc

-- ---- what is put

-- only an INSERT puts rows
abbrev puts : Piece → Bool
puts (Reads (statement.Insert i)) = true
puts _ = false

puts-nothing : (binds : Binder) (look : Option Sight) (own : List Put) (p : Piece) → puts p ≡ false → rows_put binds look own p ≡ []
puts-nothing binds None own p h = refl
puts-nothing binds (Some sight) own (Reads (statement.Insert i)) h = cc
puts-nothing binds (Some sight) own (Reads (statement.Select s)) h = refl
puts-nothing binds (Some sight) own (Reads (statement.Create c)) h = refl
puts-nothing binds (Some sight) own (Reads (statement.Alter n c)) h = refl
puts-nothing binds (Some sight) own (Reads (statement.Begin s)) h = refl
puts-nothing binds (Some sight) own (Reads statement.Commit) h = refl
puts-nothing binds (Some sight) own (Reads statement.Rollback) h = refl
puts-nothing binds (Some sight) own Blank h = refl
puts-nothing binds (Some sight) own Too_long h = refl
puts-nothing binds (Some sight) own No_statement h = refl

-- no lane holds what was not put
pub holds-nothing : (told : Bool) (tables : List Definition) → Holds told tables [] []
holds-nothing told tables = record { rows = λ t b told within bucket. ([], tt, refl, refl) }

pub as-before-later : (told : Bool) (now : Now) (t : Transaction) (c d : Counts) → IsAsBefore told now t c → Later c d → IsAsBefore told now t d
as-before-later told now t c d b later =
    record { state = b.state; lanes = b.lanes; idle = b.idle; own = b.own; tails = b.tails; later = later-by now.counts c d b.later later }

pub no-tails : (es : List EntryKind) (a b : ℕ) → tailed es ≡ 0 → a ≤ b → RoseBy (tailed es) a b
no-tails es a b h l = subst (λ n. RoseBy n a b) (sym h) (rose-by-none a b l)

module _ (binds : Binder) (told : Bool) where
  -- a step of a piece in a state
  pub does-at : (now : Now) (p : Piece) (st : State) (es es' : List EntryKind) (r : Option Reply) → now.piece ≡ Some p → now.state ≡ st → es' ≡ es
      → Step binds told now.found st now.lanes p es r → Does binds told now es' r
  does-at now p st es es' r piece state same h =
      subst (λ (xs : List EntryKind). DoesBy binds told now now.piece xs r) (sym same)
      (subst (λ (x : Option Piece). DoesBy binds told now x es r) (sym piece)
      (subst (λ (s : State). Step binds told now.found s now.lanes p es r) (sym state) h))

  pub behind-at : (now : Now) (p : Piece) (st after : State) (r : Option Reply) → now.piece ≡ Some p → now.state ≡ st → state_after st now.number p r ≡ after
      → state_behind now r ≡ after
  behind-at now p st after r piece state h =
      subst (λ (x : Option Piece). state_by_piece now x r ≡ after) (sym piece)
      (subst (λ (s : State). state_after s now.number p r ≡ after) (sym state) h)

  -- a statement that is refused, behind these entries
  pub fails-at : (now : Now) (p : Piece) (st : State) (es : List EntryKind) (why : Fault) (t : Transaction) (c : Counts) → now.piece ≡ Some p → now.state ≡ st
      → IsAsBefore told now t c → now.entries ≡ es → is_plain why ≡ true → Step binds told now.found st now.lanes p es (Some (reply.Error why))
      → ((w : Fault) → state_after st now.number p (Some (reply.Error w)) ≡ failed st) → Fails binds told now why false t c
  fails-at now p st es why t c piece state b entries plain step leaves = record {
    does = λ more h. does-at now p st es ((now.entries ++ mark_down why) ++ more) (Some (reply.Error why)) piece state (alone more h) step;
    unmarked = λ n host. absurd (plain-host why n plain host);
    leaves = λ w. behind-at now p st (failed now.state) (Some (reply.Error w)) piece state (leaves w ∙ ap failed (sym state));
    state = b.state;
    lanes = b.lanes;
    cause = plain-cause now.counts c why plain;
    tails = no-tails now.entries (now.counts.stores 0) (c.stores 0) b.tails (b.later.stores 0);
    later = b.later;
  }
    where
      alone : (more : List EntryKind) → more ≡ [] → (now.entries ++ mark_down why) ++ more ≡ es
      alone more h =
          ap (λ xs. (now.entries ++ mark_down why) ++ xs) h ∙ append-nil (now.entries ++ mark_down why)
          ∙ ap (λ xs. now.entries ++ xs) (plain-mark why plain) ∙ append-nil now.entries ∙ entries

  -- a refusal that has no entry
  refuses : (now : Now) (p : Piece) (st : State) (why : Fault) (t : Transaction) (c : Counts) → Begins told now p t c → now.state ≡ st → is_plain why ≡ true
      → Step binds told now.found st now.lanes p [] (Some (reply.Error why))
      → ((w : Fault) → state_after st now.number p (Some (reply.Error w)) ≡ failed st) → Fails binds told now why false t c
  refuses now p st why t c b state plain step leaves = fails-at now p st [] why t c b.piece state b.before b.entries plain step leaves

  -- a reply that has no entry
  answers : (now : Now) (p : Piece) (st : State) (r : Option Reply) (t after : Transaction) (c : Counts) → Begins told now p t c → now.state ≡ st
      → Step binds told now.found st now.lanes p [] r → after.state ≡ txn_state (state_after st now.number p r) → after.lanes ≡ t.lanes
      → (after.state ≡ txn.Open → Holds told (tables_left now.history) t.lanes now.found.own) → puts p ≡ false → IsCaused now.counts c r
      → Owes binds told now false now.entries r after c
  answers now p st r t after c b state step to lanes own none cause = record {
    does = λ es h. does-at now p st [] (now.entries ++ es) r b.piece state (ap (λ xs. now.entries ++ xs) h ∙ append-nil now.entries ∙ b.entries) step;
    state = to ∙ ap txn_state (sym (behind-at now p st (state_after st now.number p r) r b.piece state refl));
    lanes = ap slots lanes ∙ b.before.lanes;
    own = λ g h. subst (λ ls. Holds told (tables_left now.history) ls (now.found.own ++ put_by_piece binds now.found now.piece)) (sym lanes)
        (subst (λ xs. Holds told (tables_left now.history) t.lanes xs) (sym nothing) (own h));
    cause = cause;
    tails = no-tails now.entries (now.counts.stores 0) (c.stores 0) b.before.tails (b.before.later.stores 0);
    later = b.before.later;
  }
    where
      nothing : now.found.own ++ put_by_piece binds now.found now.piece ≡ now.found.own
      nothing =
          ap (λ x. now.found.own ++ put_by_piece binds now.found x) b.piece
          ∙ ap (λ xs. now.found.own ++ xs) (puts-nothing binds now.found.look now.found.own p none) ∙ append-nil now.found.own

  -- ---- pieces that are no statement

  blank-leaves : (st : State) (m : ℕ) → state_after st m Blank None ≡ st
  blank-leaves Idle m = refl
  blank-leaves (Open b) m = refl
  blank-leaves (Failed b) m = refl

  pub blank : (now : Now) (t : Transaction) (c : Counts) → Begins told now Blank t c → Owes binds told now false now.entries None t c
  blank now t c b =
      answers now Blank now.state None t t c b refl refl (b.before.state ∙ ap txn_state (sym (blank-leaves now.state now.number))) refl b.before.own refl tt

  error-leaves-long : (st : State) (m : ℕ) (w : Fault) → state_after st m Too_long (Some (reply.Error w)) ≡ failed st
  error-leaves-long Idle m w = refl
  error-leaves-long (Open b) m w = refl
  error-leaves-long (Failed b) m w = refl

  error-leaves-none : (st : State) (m : ℕ) (w : Fault) → state_after st m No_statement (Some (reply.Error w)) ≡ failed st
  error-leaves-none Idle m w = refl
  error-leaves-none (Open b) m w = refl
  error-leaves-none (Failed b) m w = refl

  pub too-long : (now : Now) (t : Transaction) (c : Counts) → Begins told now Too_long t c → Fails binds told now fault.TooLong false t c
  too-long now t c b = refuses now Too_long now.state fault.TooLong t c b refl refl (refl, refl) (λ w. error-leaves-long now.state now.number w)

  pub no-statement : (now : Now) (t : Transaction) (c : Counts) → Begins told now No_statement t c → Fails binds told now fault.Syntax false t c
  no-statement now t c b = refuses now No_statement now.state fault.Syntax t c b refl refl (refl, inl refl) (λ w. error-leaves-none now.state now.number w)

  pub no-statement-short : (now : Now) (t : Transaction) (c : Counts) → Begins told now No_statement t c → Fails binds told now fault.NoMemory false t c
  no-statement-short now t c b = refuses now No_statement now.state fault.NoMemory t c b refl refl (refl, inr refl) (λ w. error-leaves-none now.state now.number w)

  -- ---- BEGIN

  module _ (now : Now) (snapshot : Bool) (t : Transaction) (c : Counts) (b : Begins told now (Reads (statement.Begin snapshot)) t c) where
    pub begins : (after : Transaction) → t.state ≡ txn.Idle → after.state ≡ txn.Open → after.lanes ≡ t.lanes
        → Owes binds told now false now.entries (Some reply.Begun) after c
    begins after idle opened lanes =
        let e = is-idle now.state (sym b.before.state ∙ idle) in
        answers now (Reads (statement.Begin snapshot)) Idle (Some reply.Begun) t after c b e (refl, refl) opened lanes
        (λ h. subst (λ ls. Holds told (tables_left now.history) ls now.found.own) (sym (b.before.idle e).0)
        (subst (λ xs. Holds told (tables_left now.history) [] xs) (sym (b.before.idle e).1) (holds-nothing told (tables_left now.history)))) refl tt

    pub begin-in-open : t.state ≡ txn.Open → Fails binds told now fault.TransactionOpen false t c
    begin-in-open h =
        let e = is-open now.state (sym b.before.state ∙ h) in
        refuses now (Reads (statement.Begin snapshot)) (Open e.0) fault.TransactionOpen t c b e.1 refl (refl, refl) (λ w. refl)

    pub begin-in-failed : t.state ≡ txn.Failed → Fails binds told now fault.TransactionFailed false t c
    begin-in-failed h =
        let e = is-failed now.state (sym b.before.state ∙ h) in
        refuses now (Reads (statement.Begin snapshot)) (Failed e.0) fault.TransactionFailed t c b e.1 refl (refl, refl) (λ w. refl)

  -- ---- COMMIT and ROLLBACK

  -- every lane goes back
  rolls-back : (now : Now) (p : Piece) (st : State) (t : Transaction) (c : Counts) → Begins told now p t c → now.state ≡ st
      → ((es : List EntryKind) → AreBacks now.lanes es → Step binds told now.found st now.lanes p es (Some reply.RolledBack))
      → state_after st now.number p (Some reply.RolledBack) ≡ Idle → Owes binds told now true now.entries (Some reply.RolledBack) t c
  rolls-back now p st t c b state step to = record {
    does = λ es h. does-at now p st es (now.entries ++ es) (Some reply.RolledBack) b.piece state (ap (λ xs. xs ++ es) b.entries)
        (step es (subst (λ ls. AreBacks ls es) (b.before.lanes ∙ ap (lanes_after now.lanes) b.entries) h));
    state = behind-at now p st Idle (Some reply.RolledBack) b.piece state to;
    lanes = b.before.lanes;
    own = λ g. absurd (true-is-not-false g);
    cause = tt;
    tails = no-tails now.entries (now.counts.stores 0) (c.stores 0) b.before.tails (b.before.later.stores 0);
    later = b.before.later;
  }
    where
      true-is-not-false : true ≡ false → ⊥
      true-is-not-false h = cc

  module _ (now : Now) (t : Transaction) (c : Counts) where
    pub rollback-in-idle : Begins told now (Reads statement.Rollback) t c → t.state ≡ txn.Idle → Fails binds told now fault.NoTransaction false t c
    rollback-in-idle b h =
        refuses now (Reads statement.Rollback) Idle fault.NoTransaction t c b (is-idle now.state (sym b.before.state ∙ h)) refl (refl, refl) (λ w. refl)

    pub rolls-back-open : Begins told now (Reads statement.Rollback) t c → t.state ≡ txn.Open → Owes binds told now true now.entries (Some reply.RolledBack) t c
    rolls-back-open b h =
        let e = is-open now.state (sym b.before.state ∙ h) in
        rolls-back now (Reads statement.Rollback) (Open e.0) t c b e.1 (λ es k. (k, refl)) refl

    pub rolls-back-failed : Begins told now (Reads statement.Rollback) t c → t.state ≡ txn.Failed → Owes binds told now true now.entries (Some reply.RolledBack) t c
    rolls-back-failed b h =
        let e = is-failed now.state (sym b.before.state ∙ h) in
        rolls-back now (Reads statement.Rollback) (Failed e.0) t c b e.1 (λ es k. (k, refl)) refl

    pub commit-in-idle : Begins told now (Reads statement.Commit) t c → t.state ≡ txn.Idle → Fails binds told now fault.NoTransaction false t c
    commit-in-idle b h =
        refuses now (Reads statement.Commit) Idle fault.NoTransaction t c b (is-idle now.state (sym b.before.state ∙ h)) refl (refl, refl) (λ w. refl)

    pub commit-in-failed : Begins told now (Reads statement.Commit) t c → t.state ≡ txn.Failed → Owes binds told now true now.entries (Some reply.RolledBack) t c
    commit-in-failed b h =
        let e = is-failed now.state (sym b.before.state ∙ h) in
        rolls-back now (Reads statement.Commit) (Failed e.0) t c b e.1 (λ es k. (k, refl)) refl

    -- the session's end gives its lanes back, with no reply
    pub closes : Closes told now t c → Owes binds told now true now.entries None t c
    closes b = record {
      does = λ es h. subst (λ (x : Option Piece). DoesBy binds told now x (now.entries ++ es) None) (sym b.piece) (
        subst (λ ls. AreBacks now.lanes ls) (sym (ap (λ xs. xs ++ es) b.entries))
            (subst (λ ls. AreBacks ls es) (b.before.lanes ∙ ap (lanes_after now.lanes) b.entries) h),
        refl,
      );
      state = subst (λ (x : Option Piece). state_by_piece now x None ≡ Idle) (sym b.piece) refl;
      lanes = b.before.lanes;
      own = λ g. absurd (true-is-not-false g);
      cause = tt;
      tails = no-tails now.entries (now.counts.stores 0) (c.stores 0) b.before.tails (b.before.later.stores 0);
      later = b.before.later;
    }
      where
        true-is-not-false : true ≡ false → ⊥
        true-is-not-false h = cc

  -- ---- COMMIT in an open transaction

  slots-none : (lanes : List LaneState) → slots lanes ≡ [] → lanes ≡ []
  slots-none [] h = refl
  slots-none (x ∷ xs) h = cc

  commit-step : (f : Found) (b : ℕ) (lanes : Lanes) → (lanes ≡ [] → ⊥) → Step binds told f (Open b) lanes (Reads statement.Commit) (entry.Commit ∷ []) (Some reply.Committed)
  commit-step f b [] some = absurd (some refl)
  commit-step f b (lane ∷ lanes) some = inl (refl, refl)

  refused-step : (f : Found) (b : ℕ) (lanes : Lanes) (es : List EntryKind) (why : Fault) → (lanes ≡ [] → ⊥) → AreBacks lanes es → (why ≡ fault.Store) ⊎ (why ≡ fault.NoMemory)
      → Step binds told f (Open b) lanes (Reads statement.Commit) es (Some (reply.Error why))
  refused-step f b [] es why some h w = absurd (some refl)
  refused-step f b (lane ∷ lanes) es why some h (inl w) = inr (h, inl (ap reply.Error w))
  refused-step f b (lane ∷ lanes) es why some h (inr w) = inr (h, inr (ap reply.Error w))

  module _ (now : Now) (t : Transaction) (c : Counts) (b : Begins told now (Reads statement.Commit) t c) (opened : t.state ≡ txn.Open) where
    here : slots t.lanes ≡ now.lanes
    here = b.before.lanes ∙ ap (lanes_after now.lanes) b.entries

    some-lanes : (t.lanes ≡ [] → ⊥) → now.lanes ≡ [] → ⊥
    some-lanes some e = some (slots-none t.lanes (here ∙ e))

    pub commits-nothing : t.lanes ≡ [] → Owes binds told now true now.entries (Some reply.Committed) t c
    commits-nothing none =
        let e = is-open now.state (sym b.before.state ∙ opened) in
        let empty : now.lanes ≡ [] = sym here ∙ ap slots none in
        record {
          does = λ es h. does-at now (Reads statement.Commit) (Open e.0) [] (now.entries ++ es) (Some reply.Committed) b.piece e.1
              (ap (λ xs. now.entries ++ xs) (none-back es (subst (λ ls. AreBacks (slots ls) es) none h)) ∙ append-nil now.entries ∙ b.entries)
              (subst (λ ls. Step binds told now.found (Open e.0) ls (Reads statement.Commit) [] (Some reply.Committed)) (sym empty) (refl, refl));
          state = behind-at now (Reads statement.Commit) (Open e.0) Idle (Some reply.Committed) b.piece e.1 refl;
          lanes = b.before.lanes;
          own = λ g. absurd (not-so g);
          cause = tt;
          tails = no-tails now.entries (now.counts.stores 0) (c.stores 0) b.before.tails (b.before.later.stores 0);
          later = b.before.later;
        }
      where
        not-so : true ≡ false → ⊥
        not-so h = cc

        none-back : (es : List EntryKind) → AreBacks [] es → es ≡ []
        none-back [] h = refl
        none-back (x ∷ es) h = absurd h

    pub commits : {F Z : Type 0} (a : Ask F Z) (after : Transaction) (d : Counts) → (t.lanes ≡ [] → ⊥) → Later c d → after.state ≡ txn.Idle → after.lanes ≡ []
        → entry_of a ≡ Some entry.Commit → AsksAtEnd binds told now a false (Some reply.Committed) after d
    commits a after d some later state none asked =
        let e = is-open now.state (sym b.before.state ∙ opened) in
        record {
          kind = entry.Commit;
          asked = asked;
          owes = record {
            does = λ es h. does-at now (Reads statement.Commit) (Open e.0) (entry.Commit ∷ []) ((now.entries ++ entry.Commit ∷ []) ++ es) (Some reply.Committed)
                b.piece e.1 (ap (λ xs. (now.entries ++ entry.Commit ∷ []) ++ xs) h ∙ append-nil (now.entries ++ entry.Commit ∷ []) ∙ ap (λ xs. xs ++ entry.Commit ∷ []) b.entries)
                (commit-step now.found e.0 now.lanes (some-lanes some));
            state = state ∙ ap txn_state (sym (behind-at now (Reads statement.Commit) (Open e.0) Idle (Some reply.Committed) b.piece e.1 refl));
            lanes = ap slots none ∙ sym (fold_push lanes_by now.lanes now.entries entry.Commit);
            own = λ g h. absurd (idle-is-not-open (sym state ∙ h));
            cause = tt;
            tails = no-tails (now.entries ++ entry.Commit ∷ []) (now.counts.stores 0) (d.stores 0)
                (tails-more now.entries entry.Commit 0 refl ∙ plus-none (tailed now.entries) ∙ b.before.tails) ((later-by now.counts c d b.before.later later).stores 0);
            later = later-by now.counts c d b.before.later later;
          };
          shut = λ g h. idle-is-not-open (sym state ∙ h);
          unmarked = λ h. absurd (false-is-not-true h);
        }
      where
        false-is-not-true : false ≡ true → ⊥
        false-is-not-true h = cc

        plus-none : (k : ℕ) → k + 0 ≡ k
        plus-none k = omega arith

    -- its lanes could not be sealed
    pub commit-refused : (after : Transaction) (d : Counts) (why : Fault) → (t.lanes ≡ [] → ⊥) → Later c d → slots after.lanes ≡ slots t.lanes
        → (why ≡ fault.Store) ⊎ (why ≡ fault.NoMemory) → IsCause now.counts d why → Owes binds told now true now.entries (Some (reply.Error why)) after d
    commit-refused after d why some later same kind cause =
        let e = is-open now.state (sym b.before.state ∙ opened) in
        record {
          does = λ es h. does-at now (Reads statement.Commit) (Open e.0) es (now.entries ++ es) (Some (reply.Error why)) b.piece e.1 (ap (λ xs. xs ++ es) b.entries)
              (refused-step now.found e.0 now.lanes es why (some-lanes some) (subst (λ ls. AreBacks ls es) (same ∙ here) h) kind);
          state = behind-at now (Reads statement.Commit) (Open e.0) Idle (Some (reply.Error why)) b.piece e.1 refl;
          lanes = same ∙ b.before.lanes;
          own = λ g. absurd (true-is-not-false g);
          cause = cause;
          tails = no-tails now.entries (now.counts.stores 0) (d.stores 0) b.before.tails ((later-by now.counts c d b.before.later later).stores 0);
          later = later-by now.counts c d b.before.later later;
        }
      where
        true-is-not-false : true ≡ false → ⊥
        true-is-not-false h = cc
