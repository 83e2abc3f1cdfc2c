-- What an answer adds to what is known of a statement that runs.
use Rattle.std.proofs.Common.{◌≡◌, ◌⊎◌, inl, inr, ℕ, suc, ◌+◌, ◌<◌, ◌≤◌, Bool, true, false, ◌&&◌, ◌==◌, cond, Option, Some, None, List, [], ◌∷◌, ◌++◌, length, drop, map, refl, sym, ◌∙◌, ap, subst, arith, append_assoc}
use Rattle.std.proofs.lemmas.List.{append-nil}
use Rattle.std.proofs.lemmas.List.Elements.{filter-append}
use Rattle.hq_value.specs.declared.entry.Entry.{Entry}
use Rattle.hq_value.specs.declared.entry.EntryKind.{EntryKind}
use Rattle.hq_value.specs.declared.entry.EntryKind.TheVariants as entry
use Rattle.hq_value.specs.declared.table.Column.{Column}
use Rattle.hq_value.specs.Tables.{Definition}
use Rattle.hq_log.specs.Marks.{marks}
use Rattle.hq_log.specs.Legal.{IsLegal}
use Rattle.hq_log.specs.Places.{next_place}
use Rattle.hq_log.specs.declared.place.Next.{Next}
use Rattle.hq_log.specs.declared.place.Next.TheVariants as which
use Rattle.hq_history.specs.declared.noted.Noted.{Noted}
use Rattle.hq_history.specs.declared.noted.Deposit.{Deposit}
use Rattle.hq_history.specs.declared.noted.Deposit.TheVariants as deposit
use Rattle.hq_history.specs.History.{GrewByOthers, entries_of, by}
use Rattle.hq_history.specs.Deposits.{IsHistory, tables_left}
use Rattle.hq_catalog.specs.declared.ask.Ask.{Ask}
use Rattle.hq_catalog.specs.declared.ask.Ask.TheVariants as ask
use Rattle.hq_catalog.specs.declared.ask.Answer.{Answer}
use Rattle.hq_catalog.specs.declared.ask.Answer.TheVariants as answer
use Rattle.hq_catalog.specs.CatStep.{CatStep, LookStep, CreateStep, AlterStep, LendsNext, LendStep, AdoptStep, CommitStep, BackStep, SweepAnyStep, MarkStep, noted, places_of}
use Rattle.hq_catalog.proofs.Others.{entries-append}
use Rattle.hq_lane.specs.Lanes.{LaneState, are_clean}
use Rattle.hq_txn.specs.Transactions.{Transaction}
use Rattle.hq_reply.specs.declared.reply.Reply.{Reply}
use Rattle.hq_transcript.specs.Binds.{binds}
use Rattle.hq_transcript.specs.Pieces.{Piece}
use Rattle.hq_transcript.specs.Sights.{Replay, Sight, Found, sight_at, found_by}
use Rattle.hq_transcript.specs.Step.{begun}
use Rattle.hq_transcript.specs.Transcript.{Standing, Replied, own, of_session, at_start}
use Rattle.hq_transcript.specs.History.{after_noted, replay_history, puts_in}
use Rattle.hq_transcript.proofs.Answered.{replied-other, replied-own}
use Rattle.hq_transcript.proofs.Folds.{up-history, tables-history}
use Rattle.hq_transcript.proofs.Growth.{history-push, run-begun}
use Rattle.hq_turns.specs.Asked.{entry_of}
use Rattle.hq_turns.specs.Counts.{Counts}
use Rattle.hq_turns.specs.Ends.{tailed}
use Rattle.hq_turns.proofs.Counting.{tails-more}
use Rattle.hq_turns.specs.Now.{Now, Heard, found_with, sight_over, shown, behind}
use Rattle.hq_turns.proofs.Hearing.{noted-one, noted-none}
use Rattle.hq_session.specs.declared.awaited.Awaited.{Awaited}
use Rattle.hq_session.specs.declared.awaited.Awaited.TheVariants as awaited
use Rattle.hq_session.specs.Waits.{RowsOfBytes, Waits}
use Rattle.hq_serve.specs.Asking.{IsAnswered}
use Rattle.hq_serve.specs.Running.{Spot, now_at, HasReplied, HasTails}
use Rattle.hq_serve.proofs.Finding.{finds, IsNew, found-other, found-own, own-other, own-more}

-- ---- what a step adds

-- the entry of an ask is of this kind
abbrev pub IsEntryOf : {F Z : Type 0} → Ask F Z → EntryKind → Type 0
IsEntryOf (ask.Look scope have) kind = kind ≡ entry.Look
IsEntryOf (ask.Create def) kind = kind ≡ entry.Create
IsEntryOf (ask.Alter name column) kind = kind ≡ entry.Alter
IsEntryOf _ kind = finds kind ≡ false

-- nothing was noted, or one entry of session k's statement m
abbrev pub AddsOne : {F Z : Type 0} → ℕ → ℕ → Ask F Z → List Noted → List Noted → Type 0
AddsOne k m a old new = (new ≡ old) ⊎ ((kind : EntryKind) × (d : Deposit) × (new ≡ old ++ noted k m kind d ∷ []) × IsEntryOf a kind)

module _ {F Z : Type 0} (told : Bool) (nodes k m : ℕ) (old new : List Noted) where
  one-look : (scope : _) (have : _) (r : Answer F Z) → CatStep told nodes k m old (ask.Look scope have) new r → AddsOne {F = F} {Z = Z} k m (ask.Look scope have) old new
  one-look scope have (answer.Seen at marks_of tables) s = inr (entry.Look, deposit.Nothing, s.0, refl)
  one-look scope have answer.NoMemory s = inl s
  one-look scope have _ s = absurd s

  one-create : (def : Definition) (r : Answer F Z) → CatStep told nodes k m old (ask.Create def) new r → AddsOne {F = F} {Z = Z} k m (ask.Create def) old new
  one-create def (answer.Made t) s = inr (entry.Create, deposit.Made def, s.0, refl)
  one-create def answer.Exists s = inr (entry.Create, deposit.Nothing, s.0, refl)
  one-create def (answer.TooManyTables made) s = inr (entry.Create, deposit.Nothing, s.0, refl)
  one-create def answer.NoMemory s = inl s
  one-create def _ s = absurd s

  one-alter : (name : List ℕ) (column : Column) (r : Answer F Z) → CatStep told nodes k m old (ask.Alter name column) new r
      → AddsOne {F = F} {Z = Z} k m (ask.Alter name column) old new
  one-alter name column (answer.Altered t) s = inr (entry.Alter, deposit.Added t column, s.0, refl)
  one-alter name column answer.NoTable s = inr (entry.Alter, deposit.Nothing, s.0, refl)
  one-alter name column (answer.TooManyColumns columns) s = inr (entry.Alter, deposit.Nothing, s.0, refl)
  one-alter name column answer.ColumnThere s = inr (entry.Alter, deposit.Nothing, s.0, refl)
  one-alter name column answer.NoMemory s = inl s
  one-alter name column _ s = absurd s

  one-lend : (t : ℕ) (next : Next) (r : Answer F Z) → LendsNext told nodes k m old new t next r → AddsOne {F = F} {Z = Z} k m (ask.Lend t) old new
  one-lend t (which.Clean n) (answer.Clean l) s = inr (entry.Lend t n, deposit.Nothing, s.0, refl)
  one-lend t (which.Clean n) answer.NoMemory s = inl s
  one-lend t (which.Clean n) _ s = absurd s
  one-lend t (which.Dirty n) (answer.Sweep l) s = inr (entry.Sweep t n, deposit.Nothing, s.0, refl)
  one-lend t (which.Dirty n) answer.NoMemory s = inl s
  one-lend t (which.Dirty n) _ s = absurd s
  one-lend t (which.Unborn n) (answer.Fresh l) s = inr (entry.Lend t n, deposit.Nothing, s.0, refl)
  one-lend t (which.Unborn n) answer.NoMemory s = inl s
  one-lend t (which.Unborn n) _ s = absurd s
  one-lend t which.AllOut (answer.AllOut out) s = inr (entry.Full t, deposit.Nothing, s.0, refl)
  one-lend t which.AllOut answer.NoMemory s = inl s
  one-lend t which.AllOut _ s = absurd s

  one-adopt : (l : _) (r : Answer F Z) → CatStep told nodes k m old (ask.Adopt l) new r → AddsOne {F = F} {Z = Z} k m (ask.Adopt l) old new
  one-adopt l (answer.Adopted same) s = inr (entry.Adopt _ _, deposit.Nothing, s.0, refl)
  one-adopt l _ s = absurd s

  one-commit : (lanes : _) (r : Answer F Z) → CatStep told nodes k m old (ask.Commit lanes) new r → AddsOne {F = F} {Z = Z} k m (ask.Commit lanes) old new
  one-commit lanes answer.Done s = inr (entry.Commit, deposit.Published _, s, refl)
  one-commit lanes _ s = absurd s

  one-back : (l : _) (r : Answer F Z) → CatStep told nodes k m old (ask.Back l) new r → AddsOne {F = F} {Z = Z} k m (ask.Back l) old new
  one-back l answer.Done s = inr (entry.Back _ _ _, deposit.Nothing, s, refl)
  one-back l _ s = absurd s

  one-sweep : (r : Answer F Z) → CatStep told nodes k m old ask.SweepAny new r → AddsOne {F = F} {Z = Z} k m ask.SweepAny old new
  one-sweep (answer.Sweep l) s = inr (entry.Sweep _ _, deposit.Nothing, s.0, refl)
  one-sweep answer.Nothing s = inr (entry.Idle, deposit.Nothing, s.0, refl)
  one-sweep answer.NoMemory s = inl s
  one-sweep _ s = absurd s

  one-mark : (node : ℕ) (up : Bool) (r : Answer F Z) → CatStep told nodes k m old (ask.Mark node up) new r → AddsOne {F = F} {Z = Z} k m (ask.Mark node up) old new
  one-mark node up answer.Done s = inr (entry.Mark node up, deposit.Nothing, s, refl)
  one-mark node up answer.NoMemory s = inl s
  one-mark node up _ s = absurd s

  pub adds-one : (a : Ask F Z) (r : Answer F Z) → CatStep told nodes k m old a new r → AddsOne k m a old new
  adds-one (ask.Look scope have) r s = one-look scope have r s
  adds-one (ask.Create def) r s = one-create def r s
  adds-one (ask.Alter name column) r s = one-alter name column r s
  adds-one (ask.Lend t) r s = one-lend t (next_place (places_of old t)) r s
  adds-one (ask.Adopt l) r s = one-adopt l r s
  adds-one (ask.Commit lanes) r s = one-commit lanes r s
  adds-one (ask.Back l) r s = one-back l r s
  adds-one ask.SweepAny r s = one-sweep r s
  adds-one (ask.Mark node up) r s = one-mark node up r s

-- ---- what is asked is new

-- a statement asks only once for what it finds its sight by
abbrev pub AsksNew : {F Z : Type 0} → Found → Ask F Z → Type 0
AsksNew found (ask.Look scope have) = found.look ≡ None
AsksNew found (ask.Create def) = found.change ≡ None
AsksNew found (ask.Alter name column) = found.change ≡ None
AsksNew found _ = Unit {0}

pub asks-new : {F Z : Type 0} (told : Bool) (now : Now) (a : Ask F Z) (t : Transaction) (c : Counts) (awaiting : Awaited) → Waits told now a t c awaiting → AsksNew now.found a
asks-new told now a t c awaited.Piece w = absurd w
asks-new {F} {Z} told now a t c awaited.Create w = subst (λ (b : Ask F Z). AsksNew now.found b) (sym w.asked) w.change
asks-new {F} {Z} told now a t c awaited.Alter w = subst (λ (b : Ask F Z). AsksNew now.found b) (sym w.asked) w.change
asks-new {F} {Z} told now a t c (awaited.Ending reply give) w = by a w.kind w.asked
  where
    by : (a : Ask F Z) (kind : EntryKind) → entry_of a ≡ Some kind → AsksNew now.found a
    by (ask.Look scope have) kind e = cc
    by (ask.Create def) kind e = cc
    by (ask.Alter name column) kind e = cc
    by _ kind e = tt

-- an entry by which nothing is found is no news
still-new : (found : Found) (kind : EntryKind) → finds kind ≡ false → IsNew found kind
still-new found entry.Look h = cc
still-new found entry.Create h = cc
still-new found entry.Alter h = cc
still-new found _ h = tt

new-by : {F Z : Type 0} (found : Found) (a : Ask F Z) (kind : EntryKind) → AsksNew found a → IsEntryOf a kind → IsNew found kind
new-by found (ask.Look scope have) kind n e = subst (λ x. IsNew found x) (sym e) n
new-by found (ask.Create def) kind n e = subst (λ x. IsNew found x) (sym e) n
new-by found (ask.Alter name column) kind n e = subst (λ x. IsNew found x) (sym e) n
new-by found (ask.Lend t) kind n e = still-new found kind e
new-by found (ask.Adopt l) kind n e = still-new found kind e
new-by found (ask.Commit lanes) kind n e = still-new found kind e
new-by found (ask.Back l) kind n e = still-new found kind e
new-by found ask.SweepAny kind n e = still-new found kind e
new-by found (ask.Mark node up) kind n e = still-new found kind e

-- ---- what a session's entries are

of-other : (k : ℕ) (log : List Entry) (e : Entry) → (e.session == k) ≡ false → of_session k (log ++ e ∷ []) ≡ of_session k log
of-other k log e other =
    filter-append (λ (x : Entry). x.session == k) log (e ∷ []) ∙ ap (λ c. of_session k log ++ cond c (e ∷ []) []) other ∙ append-nil (of_session k log)

of-own : (k : ℕ) (log : List Entry) (e : Entry) → e.session ≡ k → of_session k (log ++ e ∷ []) ≡ of_session k log ++ e ∷ []
of-own k log e same =
    filter-append (λ (x : Entry). x.session == k) log (e ∷ []) ∙ ap (λ c. of_session k log ++ cond c (e ∷ []) []) (is-same e.session k same)
  where
    is-same : (a b : ℕ) → a ≡ b → (a == b) ≡ true
    is-same a b h = grind (arith, h)

kinds-push : (xs : List Entry) (e : Entry) → map (λ (x : Entry). x.kind) (xs ++ e ∷ []) ≡ map (λ (x : Entry). x.kind) xs ++ e.kind ∷ []
kinds-push [] e = refl
kinds-push (x ∷ xs) e = ap (λ ys. x.kind ∷ ys) (kinds-push xs e)

sum-one : (all before own one all' own' : ℕ) → all ≡ before + own → all' ≡ all + one → own' ≡ own + one → all' ≡ before + own'
sum-one all before own one all' own' h a o = omega (arith, h, a, o)

-- ---- over a history

module _ (file_rows : RowsOfBytes) (nodes : ℕ) where
  -- what holds of the replay and the log behind one entry more holds of the history with it
  behind-one : (P : Replay → List Entry → Type 0) (history : List Noted) (n : Noted)
      → P (after_noted file_rows (replay_history file_rows nodes history) n) (entries_of history ++ n.entry ∷ [])
      → P (replay_history file_rows nodes (history ++ n ∷ [])) (entries_of (history ++ n ∷ []))
  behind-one P history n h =
      subst (λ (r : Replay). P r (entries_of (history ++ n ∷ []))) (sym (history-push file_rows nodes history n))
      (subst (λ (log : List Entry). P (after_noted file_rows (replay_history file_rows nodes history) n) log) (sym (entries-append history (n ∷ []))) h)

  module _ (k : ℕ) where
    -- an entry of another session among some
    other-first : (n : Noted) (more : List Noted) → by k (n ∷ more) ≡ [] → ((n.entry.session == k) ≡ false) × (by k more ≡ [])
    other-first n more none = at (n.entry.session == k) refl none
      where
        at : (b : Bool) → (n.entry.session == k) ≡ b → cond b (n ∷ by k more) (by k more) ≡ [] → ((n.entry.session == k) ≡ false) × (by k more ≡ [])
        at true e h = cc
        at false e h = (e, h)

    -- what holds of replays and logs and stays through an entry of another session stays through all that others add
    through : (P : Replay → List Entry → Type 0)
        → ((history : List Noted) (n : Noted) → (n.entry.session == k) ≡ false → P (replay_history file_rows nodes history) (entries_of history)
        → P (after_noted file_rows (replay_history file_rows nodes history) n) (entries_of history ++ n.entry ∷ []))
        → (history between : List Noted) → by k between ≡ [] → P (replay_history file_rows nodes history) (entries_of history)
        → P (replay_history file_rows nodes (history ++ between)) (entries_of (history ++ between))
    through P step history [] none h = subst (λ (xs : List Noted). P (replay_history file_rows nodes xs) (entries_of xs)) (sym (append-nil history)) h
    through P step history (n ∷ more) none h =
        let first = other-first n more none in
        subst (λ (xs : List Noted). P (replay_history file_rows nodes xs) (entries_of xs)) (append_assoc history (n ∷ []) more)
        (through P step (history ++ n ∷ []) more first.1 (behind-one P history n (step history n first.0 h)))

    pub through-others : (P : Replay → List Entry → Type 0)
        → ((history : List Noted) (n : Noted) → (n.entry.session == k) ≡ false → P (replay_history file_rows nodes history) (entries_of history)
        → P (after_noted file_rows (replay_history file_rows nodes history) n) (entries_of history ++ n.entry ∷ []))
        → (seen history : List Noted) → GrewByOthers k seen history → P (replay_history file_rows nodes seen) (entries_of seen)
        → P (replay_history file_rows nodes history) (entries_of history)
    through-others P step seen history grown h =
        subst (λ (xs : List Noted). P (replay_history file_rows nodes xs) (entries_of xs)) (sym grown.1) (through P step seen grown.0 grown.2 h)

    module _ (told : Bool) (spot : Spot) where
      -- the replies so far stay
      pub replied-through : (seen history : List Noted) → GrewByOthers k seen history → HasReplied file_rows nodes k told spot seen
          → HasReplied file_rows nodes k told spot history
      replied-through =
          through-others (λ r log. Replied binds told k r log spot.pieces spot.replies spot.end)
          (λ history n other h. replied-other binds told k _ _ (replay_history file_rows nodes history) (entries_of history) n.entry spot.pieces spot.replies spot.end other h)

      pub replied-one : (history : List Noted) (n : Noted) → n.entry.session ≡ k → n.entry.statement ≡ spot.end.next → HasReplied file_rows nodes k told spot history
          → HasReplied file_rows nodes k told spot (history ++ n ∷ [])
      replied-one history n session statement h =
          behind-one (λ r log. Replied binds told k r log spot.pieces spot.replies spot.end) history n
          (replied-own binds told k _ _ (replay_history file_rows nodes history) (entries_of history) n.entry spot.pieces spot.replies spot.end (same n.entry.session k session) statement h)
        where
          same : (a b : ℕ) → a ≡ b → (a == b) ≡ true
          same a b h = grind (arith, h)

      -- what is known of the statement stays, over a longer history
      pub now-through : (seen history : List Noted) → GrewByOthers k seen history
          → now_at file_rows nodes k spot history ≡ record (now_at file_rows nodes k spot seen) { history = history }
      now-through seen history grown =
          let m : ℕ = spot.end.next in
          let b : ℕ = begun spot.end.state in
          let found : found_by binds k spot.pieces (replay_history file_rows nodes history) b m ≡ found_by binds k spot.pieces (replay_history file_rows nodes seen) b m =
          through-others (λ r log. found_by binds k spot.pieces r b m ≡ found_by binds k spot.pieces (replay_history file_rows nodes seen) b m)
          (λ h n other e. found-other binds k m spot.pieces _ _ (replay_history file_rows nodes h) n.entry other b ∙ e) seen history grown refl in
          let entries : own (entries_of history) k m ≡ own (entries_of seen) k m =
          through-others (λ r log. own log k m ≡ own (entries_of seen) k m)
          (λ h n other e. own-other binds k m spot.pieces [] [] (replay_history file_rows nodes h) n.entry other (entries_of h) ∙ e) seen history grown refl in
          λ j. record {
            found = found j;
            state = spot.end.state;
            lanes = spot.end.lanes;
            number = m;
            piece = spot.piece;
            entries = entries j;
            counts = spot.counts;
            history = history;
          }

      -- and an entry of its own adds its sight and its kind
      pub now-one : (history : List Noted) (kind : EntryKind) (d : Deposit) → IsHistory told history → HasReplied file_rows nodes k told spot history
          → IsNew (now_at file_rows nodes k spot history).found kind
          → now_at file_rows nodes k spot (history ++ noted k spot.end.next kind d ∷ [])
          ≡ shown file_rows told nodes k (now_at file_rows nodes k spot history) history (noted k spot.end.next kind d)
      now-one history kind d deposits replied fresh =
          let m : ℕ = spot.end.next in
          let b : ℕ = begun spot.end.state in
          let n : Noted = noted k m kind d in
          let r : Replay = replay_history file_rows nodes history in
          let below : b < m = run-begun binds told k spot.pieces r (entries_of history) at_start spot.pieces spot.replies spot.end (omega arith) replied.0 in
          let sight : sight_at r n.entry ≡ sight_over file_rows told nodes k history m =
          λ j. record { session = k; statement = m; tables = tables-history file_rows told nodes history deposits j; puts = r.puts; up = up-history file_rows nodes history j } in
          let found : found_by binds k spot.pieces (replay_history file_rows nodes (history ++ n ∷ [])) b m ≡ found_with (sight_over file_rows told nodes k history m) (found_by binds k spot.pieces r b m) kind =
          behind-one (λ x log. found_by binds k spot.pieces x b m ≡ found_with (sight_at r n.entry) (found_by binds k spot.pieces r b m) kind) history n
          (found-own binds k m spot.pieces _ _ r n.entry refl refl b below fresh)
          ∙ ap (λ (s : Sight). found_with s (found_by binds k spot.pieces r b m) kind) sight in
          let entries : own (entries_of (history ++ n ∷ [])) k m ≡ own (entries_of history) k m ++ kind ∷ [] =
          behind-one (λ x log. own log k m ≡ own (entries_of history) k m ++ kind ∷ []) history n (own-more binds k m spot.pieces [] [] r n.entry refl refl (entries_of history)) in
          λ j. record {
            found = found j;
            state = spot.end.state;
            lanes = spot.end.lanes;
            number = m;
            piece = spot.piece;
            entries = entries j;
            counts = spot.counts;
            history = history ++ n ∷ [];
          }

      -- the lanes that went back with a tail are still those before it and its own
      pub tails-through : (seen history : List Noted) → GrewByOthers k seen history → HasTails file_rows nodes k spot seen → HasTails file_rows nodes k spot history
      tails-through =
          through-others (λ r log. tailed (map (λ (x : Entry). x.kind) (of_session k log)) ≡ spot.tails + tailed (own log k spot.end.next))
          (λ h n other e.
          ap (λ l. tailed (map (λ (x : Entry). x.kind) l)) (of-other k (entries_of h) n.entry other) ∙ e
          ∙ ap (λ es. spot.tails + tailed es) (sym (own-other binds k spot.end.next spot.pieces [] [] (replay_history file_rows nodes h) n.entry other (entries_of h))))

      pub tails-one : (history : List Noted) (kind : EntryKind) (d : Deposit) → HasTails file_rows nodes k spot history
          → HasTails file_rows nodes k spot (history ++ noted k spot.end.next kind d ∷ [])
      tails-one history kind d h =
          let n : Noted = noted k spot.end.next kind d in
          let m : ℕ = spot.end.next in
          behind-one (λ r log. tailed (map (λ (x : Entry). x.kind) (of_session k log)) ≡ spot.tails + tailed (own log k m)) history n
          (ap (λ l. tailed (map (λ (x : Entry). x.kind) l)) (of-own k (entries_of history) n.entry refl)
          ∙ ap tailed (kinds-push (of_session k (entries_of history)) n.entry)
          ∙ sum-one (tailed (map (λ (x : Entry). x.kind) (of_session k (entries_of history)))) spot.tails (tailed (own (entries_of history) k m)) (tailed (kind ∷ []))
          (tailed (map (λ (x : Entry). x.kind) (of_session k (entries_of history)) ++ kind ∷ [])) (tailed (own (entries_of history) k m ++ kind ∷ [])) h
          (tails-more (map (λ (x : Entry). x.kind) (of_session k (entries_of history))) kind (tailed (kind ∷ [])) refl)
          (tails-more (own (entries_of history) k m) kind (tailed (kind ∷ [])) refl)
          ∙ ap (λ es. spot.tails + tailed es) (sym (own-more binds k m spot.pieces [] [] (replay_history file_rows nodes history) n.entry refl refl (entries_of history))))

      module _ {F Z : Type 0} (seen after : List Noted) (a : Ask F Z) (x : Answer F Z) (h : IsAnswered told nodes k spot.end.next seen a after x)
          (replied : HasReplied file_rows nodes k told spot seen) where
        replied-before : HasReplied file_rows nodes k told spot h.before
        replied-before = replied-through seen h.before h.others replied

        -- the replies so far stay
        pub replied-answered : HasReplied file_rows nodes k told spot after
        replied-answered = at (adds-one told nodes k spot.end.next h.before after a x h.step)
          where
            at : AddsOne k spot.end.next a h.before after → HasReplied file_rows nodes k told spot after
            at (inl same) = subst (λ (xs : List Noted). HasReplied file_rows nodes k told spot xs) (sym same) replied-before
            at (inr one) =
                subst (λ (xs : List Noted). HasReplied file_rows nodes k told spot xs) (sym one.2)
                (replied-one h.before (noted k spot.end.next one.0 one.1) refl refl replied-before)

        pub tails-answered : HasTails file_rows nodes k spot seen → HasTails file_rows nodes k spot after
        tails-answered tails = at (adds-one told nodes k spot.end.next h.before after a x h.step)
          where
            at : AddsOne k spot.end.next a h.before after → HasTails file_rows nodes k spot after
            at (inl same) = subst (λ (xs : List Noted). HasTails file_rows nodes k spot xs) (sym same) (tails-through seen h.before h.others tails)
            at (inr one) =
                subst (λ (xs : List Noted). HasTails file_rows nodes k spot xs) (sym one.2) (tails-one h.before one.0 one.1 (tails-through seen h.before h.others tails))

        -- what is known of the statement is then what it was told
        pub heard : AsksNew (now_at file_rows nodes k spot seen).found a
            → Heard file_rows told nodes k (now_at file_rows nodes k spot seen) a x (now_at file_rows nodes k spot after)
        heard fresh = record {
          before = h.before;
          history = after;
          others = h.others;
          legal = h.legal;
          steps = h.steps;
          step = h.step;
          after_is = at (adds-one told nodes k spot.end.next h.before after a x h.step);
        }
          where
            first : Now
            first = now_at file_rows nodes k spot seen

            later : now_at file_rows nodes k spot h.before ≡ record first { history = h.before }
            later = now-through seen h.before h.others

            at : AddsOne k spot.end.next a h.before after → now_at file_rows nodes k spot after ≡ behind file_rows told nodes k first h.before (drop (length h.before) after)
            at (inl same) =
                ap (λ (xs : List Noted). now_at file_rows nodes k spot xs) same ∙ later ∙ sym (noted-none file_rows told nodes k first h.before after same)
            at (inr one) =
                ap (λ (xs : List Noted). now_at file_rows nodes k spot xs) one.2
                ∙ now-one h.before one.0 one.1 h.deposits replied-before
                (subst (λ (n : Now). IsNew n.found one.0) (sym later) (new-by first.found a one.0 fresh one.3))
                ∙ ap (λ (n : Now). shown file_rows told nodes k n h.before (noted k spot.end.next one.0 one.1)) later
                ∙ sym (noted-one file_rows told nodes k first h.before after (noted k spot.end.next one.0 one.1) one.2)
