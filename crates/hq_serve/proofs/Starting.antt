-- A session's start and its end.
use Rattle.std.proofs.Common.{◌≡◌, ℕ, ◌+◌, ◌&&◌, ◌==◌, cond, Bool, true, false, List, [], ◌∷◌, ◌++◌, length, map, Option, Some, None, IfSome, refl, sym, ◌∙◌, ap, subst, arith}
use Rattle.std.specs.Io.KnownBytes.{append_known, IsAtEnd}
use Rattle.hq_value.specs.Causes.{RoseBy}
use Rattle.hq_value.specs.declared.entry.Entry.{Entry}
use Rattle.hq_value.specs.declared.entry.EntryKind.{EntryKind}
use Rattle.hq_history.specs.declared.noted.Noted.{Noted}
use Rattle.hq_history.specs.History.{entries_of, by}
use Rattle.hq_io.specs.Pieces as io
use Rattle.hq_io.specs.Pieces.{pieces_of}
use Rattle.hq_io.specs.Reading.{Reading}
use Rattle.hq_reply.specs.declared.reply.Reply.{Reply}
use Rattle.hq_transcript.specs.declared.why.EndWhy.{EndWhy}
use Rattle.hq_transcript.specs.declared.why.EndWhy.TheVariants as whys
use Rattle.hq_transcript.specs.Pieces.{Piece}
use Rattle.hq_transcript.specs.Binds.{binds}
use Rattle.hq_transcript.specs.Reading.{piece_of, pieces_in}
use Rattle.hq_transcript.specs.Reaching.{Reaches}
use Rattle.hq_transcript.specs.Sights.{start}
use Rattle.hq_transcript.specs.Step.{AreBacks, lanes_after}
use Rattle.hq_transcript.specs.Transcript.{Replied, Ended, of_session, own, in_order, at_start}
use Rattle.hq_transcript.specs.History.{replay_history}
use Rattle.hq_transcript.specs.Serves.{RepliedBy}
use Rattle.hq_transcript.proofs.Answered.{replied-starts}
use Rattle.hq_txn.specs.Transactions.{Transaction}
use Rattle.hq_txn.specs.declared.state.TxnState.TheVariants as txn
use Rattle.hq_lane.specs.Lanes.{LaneState}
use Rattle.hq_turns.specs.Counts.{Counts, Later}
use Rattle.hq_turns.specs.Ends.{tailed}
use Rattle.hq_turns.specs.Hand.{InHand}
use Rattle.hq_turns.specs.Held.{slots}
use Rattle.hq_turns.proofs.Counting.{later-same}
use Rattle.hq_session.specs.declared.session.Session.{Session}
use Rattle.hq_session.specs.Keeps.{IsSound, txn_of}
use Rattle.hq_session.specs.Waits.{RowsOfBytes}
use Rattle.hq_serve.specs.Causes.{HaveCauses}
use Rattle.hq_serve.specs.Inputs.{HasAnswered, SoFar, IsLast}
use Rattle.hq_serve.specs.Running.{Spot, IsWaiting, HasEnded, CanGoOn}
use Rattle.hq_serve.specs.Served.{kinds_by, RepliedAt, IsServed, HasRun}
use Rattle.hq_serve.proofs.Going.{own-beyond, change-beyond}
use Rattle.hq_serve.proofs.Reached.{Appends-none, cut-none}
use Rattle.hq_serve.proofs.Rising.{none-rose, more-tails}

-- ---- a session that has no entry

pub of-none : (k : ℕ) (history : List Noted) → by k history ≡ [] → of_session k (entries_of history) ≡ []
of-none k [] h = refl
of-none k (n ∷ history) h = at (n.entry.session == k) h (of-none k history)
  where
    at : (b : Bool) → cond b (n ∷ by k history) (by k history) ≡ [] → (by k history ≡ [] → of_session k (entries_of history) ≡ [])
        → cond b (n.entry ∷ of_session k (entries_of history)) (of_session k (entries_of history)) ≡ []
    at true h rest = cc
    at false h rest = rest h

pub own-none : (k m : ℕ) (history : List Noted) → by k history ≡ [] → own (entries_of history) k (m + 1) ≡ []
own-none k m history h = own-beyond k (m + 1) 0 0 (entries_of history) (omega arith) (ap (in_order 0 0) (of-none k history h))

pub kinds-none : (k : ℕ) (history : List Noted) → by k history ≡ [] → tailed (kinds_by k history) ≡ 0
kinds-none k history h = ap (λ l. tailed (map (λ (x : Entry). x.kind) l)) (of-none k history h)

module _ (file_rows : RowsOfBytes) (nodes k : ℕ) (files seals : Bool) (history : List Noted) (fresh : by k history ≡ []) where
  abbrev told : Bool
  told = files && seals

  -- nothing was replied, and nothing has to go back
  pub ended-none : Ended binds told k (replay_history file_rows nodes history) (entries_of history) [] []
  ended-none = (
    at_start,
    replied-starts binds told k (replay_history file_rows nodes history) (entries_of history) (of-none k history fresh),
    subst (λ (es : List EntryKind). AreBacks [] es) (sym (own-none k 0 history fresh)) tt,
  )

  pub run-none : (c : Counts) (first : Option (List ℕ)) → HasRun file_rows told nodes k history c c whys.NoMemory first first
  run-none c first = record {
    pieces = [];
    replies = [];
    ended = ended-none;
    causes = none-rose c (kinds_by k history) (kinds-none k history fresh);
    written = ([], Appends-none first, refl);
  }

  pub served-none : (c : Counts) (whole first : Option (List ℕ)) → IsServed file_rows told nodes k history c c whys.NoMemory whole whole first first
  served-none c None first = tt
  served-none c (Some input) first =
      ([], Appends-none first, (0, [], (refl, refl), (([], pieces_in input, refl, refl, ended-none), none-rose c (kinds_by k history) (kinds-none k history fresh)), refl))

  module _ {F Z : Type 0} (s : Session F Z) (c : Counts) (idle : txn_of s ≡ record { state = txn.Idle; snapshot = false; lanes = []; spare = 0 }) (home : InHand files seals k history []) where
    abbrev pub first-spot : Spot
    first-spot = record { pieces = []; replies = []; end = at_start; tails = 0; piece = None; counts = c }

    waits-first : IsWaiting file_rows nodes k files seals first-spot history s c
    waits-first = record {
      replied = replied-starts binds told k (replay_history file_rows nodes history) (entries_of history) (of-none k history fresh);
      tails = kinds-none k history fresh ∙ sym (ap (λ es. 0 + tailed es) (own-none k 0 history fresh));
      entries = own-none k 0 history fresh;
      change = change-beyond file_rows k 1 (start nodes) history refl (own-none k 0 history fresh);
      before = record {
        state = ap (λ (t : Transaction). t.state) idle;
        lanes = ap (λ (t : Transaction). slots t.lanes) idle ∙ sym (ap (lanes_after []) (own-none k 0 history fresh));
        idle = λ _. (ap (λ (t : Transaction). t.lanes) idle, refl);
        own = λ opened. absurd (let no = sym (ap (λ (t : Transaction). t.state) idle) ∙ opened in cc);
        tails = ap tailed (own-none k 0 history fresh);
        later = later-same c;
      };
      hand = subst (λ (lanes : List LaneState). InHand files seals k history lanes) (sym (ap (λ (t : Transaction). t.lanes) idle)) home;
    }

    pub can-begin : CanGoOn files seals nodes k 1 history s c
    can-begin = (file_rows, first-spot, refl, waits-first)

    pub so-far-none : (reader : Reading) (left given : Option (List ℕ)) → reader ≡ record { held = []; ended = false; text = []; pieces = 0; taken = 0 }
        → SoFar file_rows nodes k files seals history s c c 1 reader left left given given
    so-far-none reader left given new = record {
      ios = [];
      replies = [];
      answered = record { spot = first-spot; pieces_are = refl; replies_are = refl; counts_are = refl; next = refl; waiting = waits-first; causes = none-rose c (kinds_by k history) (kinds-none k history fresh) };
      written = Appends-none given;
      count = sym (ap (λ (r : Reading). r.pieces) new);
      cut = cut-none left reader new;
      over = λ ended. absurd (let no = sym (ap (λ (r : Reading). r.ended) new) ∙ ended in cc);
    }

-- ---- its end

map-append : (xs ys : List io.Piece) → map piece_of (xs ++ ys) ≡ map piece_of xs ++ map piece_of ys
map-append [] ys = refl
map-append (x ∷ xs) ys = ap (λ zs. piece_of x ∷ zs) (map-append xs ys)

length-map : (xs : List io.Piece) → length (map piece_of xs) ≡ length xs
length-map [] = refl
length-map (x ∷ xs) = omega (arith, length-map xs)

sum-from : (all before own all' own' : ℕ) → all ≡ before + own → own ≡ 0 → all' ≡ before + own' → all' ≡ all + own'
sum-from all before own all' own' h none e = omega (arith, h, none, e)

module _ (file_rows : RowsOfBytes) (nodes nodes' k : ℕ) (files seals : Bool) (old new : List Noted) {F Z : Type 0} (s after : Session F Z) (b c d : Counts) (m : ℕ)
    (why : EndWhy) (whole left first now : Option (List ℕ)) (same : nodes' ≡ nodes) (x : IsLast file_rows nodes k files seals old s b c m why whole left first now)
    (ended : (spot : Spot) → m ≡ spot.end.next → IsWaiting file_rows nodes' k files seals spot old s c
    → (reply : Option Reply) × HasEnded file_rows nodes' k files seals (record spot { piece = None }) new after d reply) where
  abbrev pub spot : Spot
  spot = x.answered.spot

  found : (reply : Option Reply) × HasEnded file_rows nodes' k files seals (record spot { piece = None }) new after d reply
  found = ended spot x.answered.next (subst (λ n. IsWaiting file_rows n k files seals spot old s c) (sym same) x.answered.waiting)

  h : HasEnded file_rows nodes k files seals (record spot { piece = None }) new after d found.0
  h = subst (λ n. HasEnded file_rows n k files seals (record spot { piece = None }) new after d found.0) same found.1

  has-ended : Ended binds (files && seals) k (replay_history file_rows nodes new) (entries_of new) (map piece_of x.ios) x.replies
  has-ended = (
    spot.end,
    subst (λ (ps : List Piece). Replied binds (files && seals) k (replay_history file_rows nodes new) (entries_of new) ps x.replies spot.end) x.answered.pieces_are
        (subst (λ (rs : List (Option Reply)). Replied binds (files && seals) k (replay_history file_rows nodes new) (entries_of new) spot.pieces rs spot.end) x.answered.replies_are h.replied),
    h.ended.does.0,
  )

  causes : HaveCauses x.replies (kinds_by k new) b d
  causes =
      let w = x.answered.waiting in
      let own' : ℕ = tailed (own (entries_of new) k spot.end.next) in
      more-tails x.replies (kinds_by k old) (kinds_by k new) b c d x.answered.causes (subst (λ (e : Counts). Later e d) x.answered.counts_are h.ended.later) own'
      (subst (λ (e : Counts). RoseBy own' (e.stores 0) (d.stores 0)) x.answered.counts_are h.ended.tails)
      (sum-from (tailed (kinds_by k old)) spot.tails (tailed (own (entries_of old) k spot.end.next)) (tailed (kinds_by k new)) own' w.tails (ap tailed w.entries) h.tails)

  pub has-run : HasRun file_rows (files && seals) nodes k new b d why first now
  has-run = record { pieces = map piece_of x.ios; replies = x.replies; ended = has-ended; causes = causes; written = x.written }

  pub is-served : IsServed file_rows (files && seals) nodes k new b d why whole left first now
  is-served = at whole x.reached
    where
      at : (whole : Option (List ℕ)) → IfSome whole (λ input. Reaches why input left (length x.ios) × ((more : List io.Piece) × (pieces_of input ≡ x.ios ++ more)))
          → IsServed file_rows (files && seals) nodes k new b d why whole left first now
      at None r = tt
      at (Some input) r = (
        x.written.0,
        x.written.1,
        (
          length x.ios,
          x.replies,
          r.0,
          ((map piece_of x.ios, map piece_of r.1.0, ap (map piece_of) r.1.1 ∙ map-append x.ios r.1.0, length-map x.ios, has-ended), causes),
          x.written.2,
        ),
      )

  pub rose : Later b d
  rose = causes.later

-- behind the end no lane is in hand
pub no-lanes : (nodes k : ℕ) (files seals : Bool) (old new : List Noted) {F Z : Type 0} (s after : Session F Z) (c d : Counts) (m : ℕ) (reply : Option Reply)
    → IsSound (txn_of after)
    → ((rows : RowsOfBytes) (spot : Spot) → m ≡ spot.end.next → IsWaiting rows nodes k files seals spot old s c
    → HasEnded rows nodes k files seals (record spot { piece = None }) new after d reply)
    → CanGoOn files seals nodes k m old s c → ((txn_of after).lanes ≡ []) × InHand files seals k new []
no-lanes nodes k files seals old new s after c d m reply sound ended w =
    let h : HasEnded w.0 nodes k files seals (record w.1 { piece = None }) new after d reply = ended w.0 w.1 w.2 w.3 in
    let none : (txn_of after).lanes ≡ [] = sound.idle h.ended.state in
    (none, subst (λ (lanes : List LaneState). InHand files seals k new lanes) none h.hand)
