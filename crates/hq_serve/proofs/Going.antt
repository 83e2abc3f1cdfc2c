-- From one statement to the next.
use Rattle.std.proofs.Common.{◌≡◌, ◌⊎◌, inl, inr, ℕ, zero, suc, ◌+◌, ◌-◌, ◌<◌, ◌≤◌, Bool, true, false, ◌&&◌, ◌==◌, cond, nat_le, Option, Some, None, List, [], ◌∷◌, ◌++◌, length, map, filter, find, take, drop, fold, refl, sym, ◌∙◌, ap, subst, arith, append_assoc, length-drop}
use Rattle.std.proofs.lemmas.List.{append-nil}
use Rattle.hq_value.specs.declared.entry.Entry.{Entry}
use Rattle.hq_value.specs.declared.entry.EntryKind.{EntryKind}
use Rattle.hq_sql.specs.declared.tree.Statement.TheVariants as statement
use Rattle.hq_history.specs.declared.noted.Noted.{Noted}
use Rattle.hq_history.specs.History.{entries_of}
use Rattle.hq_txn.specs.Transactions.{Transaction}
use Rattle.hq_txn.specs.declared.state.TxnState.TheVariants as txn
use Rattle.hq_reply.specs.declared.reply.Reply.{Reply}
use Rattle.hq_reply.specs.declared.reply.Reply.TheVariants as reply
use Rattle.hq_transcript.specs.Pieces.{Piece, Blank, Too_long, No_statement, Reads, is_snapshot, begins_snapshot}
use Rattle.hq_transcript.specs.Tables.{Put}
use Rattle.hq_transcript.specs.Binding.{Binder}
use Rattle.hq_transcript.specs.Binds.{binds}
use Rattle.hq_transcript.specs.Sights.{Sight, Replay, Found, start, sight_at, is_of_statement, look_of, own_from, own_puts, rows_put, found_by}
use Rattle.hq_transcript.specs.Step.{State, Idle, Open, Failed, Step, begun, state_after}
use Rattle.hq_transcript.specs.Transcript.{Standing, Run, behind, own, in_order, of_session, at_start}
use Rattle.hq_transcript.specs.History.{after_noted, replay_history}
use Rattle.hq_transcript.proofs.Answered.{replied-piece, step-pieces}
use Rattle.hq_transcript.proofs.Growth.{get-append, part-append, run-next, run-begun}
use Rattle.hq_turns.specs.Counts.{Counts}
use Rattle.hq_turns.specs.Now.{Now}
use Rattle.hq_turns.specs.Ends.{Begins, Closes, Ended, IsAsBefore, put_by_piece, state_behind, tailed}
use Rattle.hq_turns.specs.Following.{Follows}
use Rattle.hq_turns.proofs.Following.{goes-on}
use Rattle.hq_turns.specs.Hand.{InHand}
use Rattle.hq_session.specs.declared.session.Session.{Session}
use Rattle.hq_session.specs.declared.turn.Turn.{Turn}
use Rattle.hq_serve.specs.Seats.{IsSeated}
use Rattle.hq_serve.proofs.Seating.{seated, unseated}
use Rattle.hq_session.specs.Keeps.{IsInOrder, IsSound, nodes_of, number_of, txn_of}
use Rattle.hq_session.specs.Waits.{Opens, Outcome, RowsOfBytes}
use Rattle.hq_io.specs.declared.piece.Piece as given
use Rattle.hq_io.specs.declared.piece.Piece.TheVariants as piece
use Rattle.hq_io.specs.Pieces as io
use Rattle.hq_transcript.specs.Reading.{piece_of}
use Rattle.hq_serve.specs.Inputs.{piece_in}
use Rattle.hq_serve.specs.Served.{kinds_by}
use Rattle.hq_serve.specs.Running.{Spot, now_at, HasReplied, HasEnded, IsRunning, IsWaiting, next_spot}
use Rattle.hq_serve.proofs.Beginning.{is_begun, begin-step, stays-open}
use Rattle.hq_serve.proofs.Finding.{changes-after, change-past}

-- ---- the next statement has no entry yet

both : (a b : Bool) → (a && b) ≡ true → (a ≡ true) × (b ≡ true)
both true b h = (refl, h)
both false b h = cc

not-this : (st high m : ℕ) → nat_le st high ≡ true → high < m → (st == m) ≡ false
not-this st high m h l = grind (arith, h, l)

pub own-beyond : (k m low high : ℕ) (log : List Entry) → high < m → in_order low high (of_session k log) ≡ true → own log k m ≡ []
own-beyond k m low high [] l h = refl
own-beyond k m low high (e ∷ log) l h = by (e.session == k) (λ low h. own-beyond k m low high log l h) h
  where
    kinds : Bool → List Entry → List EntryKind
    kinds b rest = map (λ (x : Entry). x.kind) (cond b (e ∷ rest) rest)

    by : (b : Bool) → ((low : ℕ) → in_order low high (of_session k log) ≡ true → own log k m ≡ []) → in_order low high (cond b (e ∷ of_session k log) (of_session k log)) ≡ true
        → map (λ (x : Entry). x.kind) (cond (b && (e.statement == m)) (e ∷ filter (λ (x : Entry). (x.session == k) && (x.statement == m)) log) (filter (λ (x : Entry). (x.session == k) && (x.statement == m)) log)) ≡ []
    by false rest h = rest low h
    by true rest h =
        let parts : ((nat_le low e.statement && nat_le e.statement high) ≡ true) × (in_order e.statement high (of_session k log) ≡ true) =
        both (nat_le low e.statement && nat_le e.statement high) (in_order e.statement high (of_session k log)) h in
        ap (λ c. kinds c (filter (λ (x : Entry). (x.session == k) && (x.statement == m)) log))
        (not-this e.statement high m (both (nat_le low e.statement) (nat_le e.statement high) parts.0).1 l)
        ∙ rest e.statement parts.1

-- so it has no Create and no Alter
module _ (file_rows : RowsOfBytes) (k m : ℕ) where
  pub change-beyond : (r : Replay) (history : List Noted) → find (is_of_statement k m) r.changes ≡ None → own (entries_of history) k m ≡ []
      → find (is_of_statement k m) (fold (after_noted file_rows) r history).changes ≡ None
  change-beyond r [] none h = none
  change-beyond r (n ∷ history) none h =
      by ((n.entry.session == k) && (n.entry.statement == m)) refl h (λ past own. change-beyond (after_noted file_rows r n) history past own)
    where
      rest : List Entry
      rest = filter (λ (x : Entry). (x.session == k) && (x.statement == m)) (entries_of history)

      by : (b : Bool) → ((n.entry.session == k) && (n.entry.statement == m)) ≡ b → map (λ (x : Entry). x.kind) (cond b (n.entry ∷ rest) rest) ≡ []
          → (find (is_of_statement k m) (after_noted file_rows r n).changes ≡ None → own (entries_of history) k m ≡ []
          → find (is_of_statement k m) (fold (after_noted file_rows) (after_noted file_rows r n) history).changes ≡ None)
          → find (is_of_statement k m) (fold (after_noted file_rows) (after_noted file_rows r n) history).changes ≡ None
      by true e h go = cc
      by false e h go =
          go
          (ap (find (is_of_statement k m)) (changes-after _ _ (sight_at r n.entry) r n.entry.kind)
          ∙ change-past (is_of_statement k m) r.changes (sight_at r n.entry) n.entry.kind e ∙ none) h

-- ---- what the transaction has put

own_from-push : (binder : Binder) (k b : ℕ) (snapshot : Bool) (looks : List Sight) (i : ℕ) (left : List Piece) (p : Piece) (puts : List Put)
    → own_from binder k b snapshot looks i (left ++ p ∷ []) puts
    ≡ own_from binder k b snapshot looks i left puts ++ rows_put binder (look_of k b snapshot (i + length left) looks) (own_from binder k b snapshot looks i left puts) p
own_from-push binder k b snapshot looks i [] p puts = ap (λ n. puts ++ rows_put binder (look_of k b snapshot n looks) puts p) (sym (plus-none i))
  where
    plus-none : (n : ℕ) → n + 0 ≡ n
    plus-none n = omega arith
own_from-push binder k b snapshot looks i (x ∷ left) p puts =
    let more : List Put = puts ++ rows_put binder (look_of k b snapshot i looks) puts x in
    own_from-push binder k b snapshot looks (suc i) left p more
    ∙ ap (λ n. own_from binder k b snapshot looks (suc i) left more ++ rows_put binder (look_of k b snapshot n looks) (own_from binder k b snapshot looks (suc i) left more) p)
    (one-on i (length left))
  where
    one-on : (n j : ℕ) → suc n + j ≡ n + suc j
    one-on n j = omega arith

take-all-push : (xs : List Piece) (p : Piece) (n : ℕ) → n ≡ length xs → take (suc n) (xs ++ p ∷ []) ≡ take n xs ++ p ∷ []
take-all-push [] p n h = ap (λ k. take (suc k) (p ∷ [])) h ∙ ap (λ k. take k [] ++ p ∷ []) (sym h)
take-all-push (x ∷ xs) p zero h = absurd (omega (arith, h))
take-all-push (x ∷ xs) p (suc n) h = ap (λ ys. x ∷ ys) (take-all-push xs p n (omega (arith, h)))

take-drop-push : (b n : ℕ) (xs : List Piece) (p : Piece) → b + n ≡ length xs → take (suc n) (drop b (xs ++ p ∷ [])) ≡ take n (drop b xs) ++ p ∷ []
take-drop-push zero n xs p h = take-all-push xs p n (omega (arith, h))
take-drop-push (suc b) n [] p h = absurd (omega (arith, h))
take-drop-push (suc b) n (x ∷ xs) p h = take-drop-push b n xs p (omega (arith, h))

length-take-all : (n : ℕ) (xs : List Piece) → n ≤ length xs → length (take n xs) ≡ n
length-take-all zero xs h = refl
length-take-all (suc n) [] h = absurd (omega (arith, h))
length-take-all (suc n) (x ∷ xs) h = ap suc (length-take-all n xs (omega (arith, h)))

snapshot-push : (pieces : List Piece) (p : Piece) (b : ℕ) → b < length pieces → is_snapshot (suc b) (pieces ++ p ∷ []) ≡ is_snapshot (suc b) pieces
snapshot-push pieces p b h = ap begins_snapshot (get-append pieces (p ∷ []) b h)

-- with one piece more it has put that piece's rows too
own_puts-push : (binder : Binder) (k : ℕ) (pieces : List Piece) (p : Piece) (looks : List Sight) (b m : ℕ) → 0 < b → b < m → m ≡ length pieces + 1
    → own_puts binder k (pieces ++ p ∷ []) looks b (suc m)
    ≡ own_puts binder k pieces looks b m ++ rows_put binder (look_of k b (is_snapshot b pieces) m looks) (own_puts binder k pieces looks b m) p
own_puts-push binder k pieces p looks zero m some below count = absurd (omega (arith, some))
own_puts-push binder k pieces p looks (suc b) m some below count =
    let n : ℕ = m - suc (suc b) in
    let part : List Piece = take n (drop (suc b) pieces) in
    let snapshot : Bool = is_snapshot (suc b) pieces in
    let same : take (suc m - suc (suc b)) (drop (suc b) (pieces ++ p ∷ [])) ≡ part ++ p ∷ [] =
    ap (λ j. take j (drop (suc b) (pieces ++ p ∷ []))) (one-more b m below) ∙ take-drop-push (suc b) n pieces p (omega (arith, below, count)) in
    (λ j. own_from binder k (suc b) (snapshot-push pieces p b (omega (arith, below, count)) j) looks (suc (suc b)) (same j) [])
    ∙ own_from-push binder k (suc b) snapshot looks (suc (suc b)) part p []
    ∙ ap (λ j. own_from binder k (suc b) snapshot looks (suc (suc b)) part [] ++ rows_put binder (look_of k (suc b) snapshot j looks) (own_from binder k (suc b) snapshot looks (suc (suc b)) part []) p)
    (at-last b m (length part) below (length-take-all n (drop (suc b) pieces) (omega (arith, below, count, length-drop (suc b) pieces))))
  where
    one-more : (b m : ℕ) → suc b < m → suc m - suc (suc b) ≡ suc (m - suc (suc b))
    one-more b m h = omega (arith, h)

    at-last : (b m l : ℕ) → suc b < m → l ≡ m - suc (suc b) → suc (suc b) + l ≡ m
    at-last b m l h e = omega (arith, h, e)

-- where the transaction has just begun it has put nothing
minus-self : (n : ℕ) → n - n ≡ 0
minus-self n = omega arith

own_puts-begun : (binder : Binder) (k : ℕ) (pieces : List Piece) (looks : List Sight) (m : ℕ) → own_puts binder k pieces looks m (suc m) ≡ []
own_puts-begun binder k pieces looks zero = refl
own_puts-begun binder k pieces looks (suc m) =
    ap (λ n. own_from binder k (suc m) (is_snapshot (suc m) pieces) looks (suc (suc m)) (take n (drop (suc m) pieces)) []) (minus-self (suc (suc m)))

begin-puts-none : (binder : Binder) (look : Option Sight) (own : List Put) (snapshot : Bool) → rows_put binder look own (Reads (statement.Begin snapshot)) ≡ []
begin-puts-none binder None own snapshot = refl
begin-puts-none binder (Some sight) own snapshot = refl

-- ---- the number of a transaction's BEGIN

begun-here : (st : State) (m : ℕ) (p : Piece) (r : Reply) (b : ℕ) → is_begun r ≡ true → state_after st m p (Some r) ≡ Open b → m ≡ b
begun-here Idle m p reply.Begun b h e = ap begun e
begun-here (Failed f) m p reply.Begun b h e = ap begun e
begun-here (Open o) m (Reads statement.Commit) reply.Begun b h e = cc
begun-here (Open o) m _ reply.Begun b h e = ap begun e
begun-here st m p _ b h e = cc

IsNumbered : State → Type 0
IsNumbered st = (b : ℕ) → st ≡ Open b → 0 < b

numbered-after : (st : State) (m : ℕ) (p : Piece) (a : Option Reply) → 0 < m → IsNumbered st → IsNumbered (state_after st m p a)
unfolding IsNumbered
numbered-after st m p None some h b e = h b e
numbered-after st m p (Some r) some h b e = by (is_begun r) refl
  where
    by : (x : Bool) → is_begun r ≡ x → 0 < b
    by true is = subst (λ n. 0 < n) (begun-here st m p r b is e) some
    by false is = h b (stays-open st m p r b is e)

numbered-run : (told : Bool) (k : ℕ) (pieces : List Piece) (r : Replay) (log : List Entry) (s : Standing) (left : List Piece) (replies : List (Option Reply)) (end : Standing)
    → 0 < s.next → IsNumbered s.state → Run binds told k pieces r log s left replies end → IsNumbered end.state
numbered-run told k pieces r log s [] [] end some h run = subst (λ (x : Standing). IsNumbered x.state) (sym run) h
numbered-run told k pieces r log s [] (a ∷ replies) end some h run = absurd run
numbered-run told k pieces r log s (p ∷ left) [] end some h run = absurd run
numbered-run told k pieces r log s (p ∷ left) (a ∷ replies) end some h run =
    numbered-run told k pieces r log (behind binds told k pieces r log s p a) left replies end (omega arith) (numbered-after s.state s.next p a some h) run.1

idle-is-numbered : IsNumbered Idle
unfolding IsNumbered
idle-is-numbered b e = cc

numbered : (st : State) → IsNumbered st → (b : ℕ) → st ≡ Open b → 0 < b
unfolding IsNumbered
numbered st h = h

-- ---- the next piece

module _ (file_rows : RowsOfBytes) (nodes k : ℕ) (files seals : Bool) (spot : Spot) (history : List Noted) {F Z : Type 0} (s : Session F Z) (c : Counts) where
  -- a session that waits begins with its next piece
  pub begins : (p : Piece) → IsWaiting file_rows nodes k files seals spot history s c
      → Begins (files && seals) (now_at file_rows nodes k (record spot { piece = Some p }) history) p (txn_of s) c
  begins p w = record {
    piece = refl;
    entries = w.entries;
    change = w.change;
    before = record { state = w.before.state; lanes = w.before.lanes; idle = w.before.idle; own = w.before.own; tails = w.before.tails; later = w.before.later };
  }

  -- or it ends
  pub closes : IsWaiting file_rows nodes k files seals spot history s c
      → Closes (files && seals) (now_at file_rows nodes k (record spot { piece = None }) history) (txn_of s) c
  closes w = record {
    piece = refl;
    entries = w.entries;
    before = record { state = w.before.state; lanes = w.before.lanes; idle = w.before.idle; own = w.before.own; tails = w.before.tails; later = w.before.later };
  }

module _ (file_rows : RowsOfBytes) (nodes k : ℕ) (files seals : Bool) (spot : Spot) (p : Piece) (history : List Noted) {F Z : Type 0} (s : Session F Z) (c : Counts) (r : Option Reply) where
  abbrev pub told : Bool
  told = files && seals

  abbrev pub this : Spot
  this = record spot { piece = Some p }

  abbrev pub then' : Spot
  then' = next_spot file_rows nodes k told spot history p r c

  abbrev replay : Replay
  replay = replay_history file_rows nodes history

  abbrev log : List Entry
  log = entries_of history

  abbrev m : ℕ
  m = spot.end.next

  abbrev now : Now
  now = now_at file_rows nodes k this history

  -- where the session has replied it waits for its next piece
  pub waits-next : IsSound (txn_of s) → HasEnded file_rows nodes k files seals this history s c r → IsWaiting file_rows nodes k files seals then' history s c
  waits-next sound h = record {
    replied = replied;
    tails = plus-none (tailed (kinds_by k history)) ∙ ap (λ es. tailed (kinds_by k history) + tailed es) (sym none);
    entries = follows.entries;
    change = follows.change;
    before = record { state = on.before.state; lanes = on.before.lanes; idle = on.before.idle; own = on.before.own; tails = on.before.tails; later = on.before.later };
    hand = h.hand;
  }
    where
      count : m ≡ length spot.pieces + 1
      count = run-next binds told k spot.pieces replay log at_start spot.pieces spot.replies spot.end h.replied.0 ∙ one-and (length spot.pieces)
        where
          one-and : (n : ℕ) → 1 + n ≡ n + 1
          one-and n = omega arith

      below : begun spot.end.state < m
      below = run-begun binds told k spot.pieces replay log at_start spot.pieces spot.replies spot.end (omega arith) h.replied.0

      replied : HasReplied file_rows nodes k told then' history
      replied = replied-piece binds told k replay log spot.pieces spot.replies spot.end p r h.replied (step-pieces binds told k replay log spot.pieces spot.replies spot.end p r h.replied h.ended.does)

      plus-none : (n : ℕ) → n ≡ n + 0
      plus-none n = omega arith

      none : own log k (suc m) ≡ []
      none = own-beyond k (suc m) 1 m log (omega arith) h.replied.1

      looks : List Sight
      looks = replay.looks

      -- what it has put by the next piece
      Puts : Type 0
      Puts = own_puts binds k (spot.pieces ++ p ∷ []) looks (begun (state_after spot.end.state m p r)) (suc m) ≡ now.found.own ++ rows_put binds now.found.look now.found.own p

      was-open : (b : ℕ) → state_after spot.end.state m p r ≡ Open b → spot.end.state ≡ Open b → Puts
      was-open b is was =
          ap (λ x. own_puts binds k (spot.pieces ++ p ∷ []) looks x (suc m)) (ap begun is)
          ∙ own_puts-push binds k spot.pieces p looks b m
          (numbered spot.end.state (numbered-run told k spot.pieces replay log at_start spot.pieces spot.replies spot.end (omega arith) idle-is-numbered h.replied.0) b was)
          (subst (λ st. begun st < m) was below) count
          ∙ ap (λ x. own_puts binds k spot.pieces looks x m ++ rows_put binds (look_of k x (is_snapshot x spot.pieces) m looks) (own_puts binds k spot.pieces looks x m) p) (sym (ap begun was))

      has-begun : (b : ℕ) → state_after spot.end.state m p r ≡ Open b → m ≡ b → spot.end.state ≡ Idle → (snapshot : Bool) → p ≡ Reads (statement.Begin snapshot) → Puts
      has-begun b is here idle snapshot piece =
          ap (λ x. own_puts binds k (spot.pieces ++ p ∷ []) looks x (suc m)) (ap begun is ∙ sym here)
          ∙ own_puts-begun binds k (spot.pieces ++ p ∷ []) looks m
          ∙ sym (ap (λ x. own_puts binds k spot.pieces looks (begun x) m ++ rows_put binds (look_of k (begun x) (is_snapshot (begun x) spot.pieces) m looks) (own_puts binds k spot.pieces looks (begun x) m) p) idle
          ∙ ap (λ x. rows_put binds (look_of k 0 (is_snapshot 0 spot.pieces) m looks) [] x) piece
          ∙ begin-puts-none binds (look_of k 0 (is_snapshot 0 spot.pieces) m looks) [] snapshot)

      puts-open : (a : Option Reply) → r ≡ a → (b : ℕ) → state_after spot.end.state m p a ≡ Open b → Step binds told now.found spot.end.state spot.end.lanes p now.entries a → Puts
      puts-open None e b is step = was-open b (ap (state_after spot.end.state m p) e ∙ is) is
      puts-open (Some x) e b is step = by (is_begun x) refl
        where
          by : (c : Bool) → is_begun x ≡ c → Puts
          by true begun = has-begun b (ap (state_after spot.end.state m p) e ∙ is) (begun-here spot.end.state m p x b begun is) (one begun).0 (one begun).1.0 (one begun).1.1
            where
              one : is_begun x ≡ true → (spot.end.state ≡ Idle) × ((snapshot : Bool) × (p ≡ Reads (statement.Begin snapshot)))
              one begun = begin-step binds told now.found spot.end.state spot.end.lanes p now.entries x begun step
          by false other = was-open b (ap (state_after spot.end.state m p) e ∙ is) (stays-open spot.end.state m p x b other is)

      follows : Follows binds now r c Blank (now_at file_rows nodes k (record then' { piece = Some Blank }) history)
      follows = record {
        piece = refl;
        number = refl;
        entries = none;
        change = change-beyond file_rows k (suc m) (start nodes) history refl none;
        state = refl;
        lanes = refl;
        own_open = λ b is. puts-open r refl b is h.ended.does;
        own_idle = λ is. ap (λ st. own_puts binds k then'.pieces replay.looks (begun st) (suc m)) is;
        counts = refl;
        history = refl;
      }

      on : Begins told (now_at file_rows nodes k (record then' { piece = Some Blank }) history) Blank (txn_of s) c
      on = goes-on binds told now (now_at file_rows nodes k (record then' { piece = Some Blank }) history) r Blank (txn_of s) c sound.idle h.ended follows

-- ---- a piece is handed in

module _ (file_rows : RowsOfBytes) (nodes k : ℕ) (files seals : Bool) (spot : Spot) (history : List Noted) {F Z : Type 0} (s : Session F Z) (c : Counts) where
  pub opens : (p : given.Piece) → IsWaiting file_rows nodes k files seals spot history s c
      → Opens (files && seals) (now_at file_rows nodes k (record spot { piece = piece_in p }) history) p (txn_of s) c
  opens (piece.Statement text) w = begins file_rows nodes k files seals spot history s c (piece_of (io.statement text.now)) w
  opens piece.TooLong w = begins file_rows nodes k files seals spot history s c Too_long w
  opens piece.Unended w = begins file_rows nodes k files seals spot history s c No_statement w
  opens piece.End w = closes file_rows nodes k files seals spot history s c w
  opens piece.Limit w = closes file_rows nodes k files seals spot history s c w

  -- so its statement has come to the turn that the session then takes
  pub runs : {B : Type 0} (benches : List B) (at : IsSeated nodes k s benches) (p : given.Piece) (after : Session F Z) (d : Counts) (turn : Turn F Z)
      → (Opens (files && seals) (now_at file_rows nodes k (record spot { piece = piece_in p }) history) p (txn_of s) c
      → Outcome (files && seals) (now_at file_rows nodes k (record spot { piece = piece_in p }) history) after d turn)
      → (InHand files seals (number_of s) history (txn_of s).lanes → IsInOrder files seals (nodes_of s) (number_of s) history turn (txn_of after).lanes)
      → IsWaiting file_rows nodes k files seals spot history s c
      → IsRunning file_rows nodes k files seals (record spot { piece = piece_in p }) history after d turn
  runs benches at p after d turn carries hand w = record {
    replied = w.replied;
    tails = w.tails;
    outcome = carries (opens p w);
    hand = seated nodes k s benches at (λ n j. IsInOrder files seals n j history turn (txn_of after).lanes)
        (hand (unseated nodes k s benches at (λ n j. InHand files seals j history (txn_of s).lanes) w.hand));
  }
