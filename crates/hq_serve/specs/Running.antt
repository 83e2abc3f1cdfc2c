-- A statement that runs, by the history that its session was shown.
--     Spot                            the pieces before it and the replies to them, where these left the session, how many lanes had then
--                                     gone back with a tail, its own piece, none at the session's end, and the counts as it began
--     now_at file_rows nodes k spot history    what is known of it
--     HasReplied .. spot history      the replies are those to the pieces before it
--     IsRunning .. turn               it has come to this turn
--     HasEnded .. reply               it has come to this reply, or to none
--     IsWaiting ..                    the session waits for its next piece
--     next_spot .. spot history p r c that of the next piece, behind this reply to p
use Rattle.std.specs.Prelude.{◌≡◌, ℕ, ◌+◌, ◌&&◌, Bool, List, [], ◌∷◌, ◌++◌, Option, None}
use Rattle.hq_history.specs.declared.noted.Noted.{Noted}
use Rattle.hq_history.specs.History.{entries_of}
use Rattle.hq_reply.specs.declared.reply.Reply.{Reply}
use Rattle.hq_transcript.specs.Pieces.{Piece}
use Rattle.hq_transcript.specs.Binds.{binds}
use Rattle.hq_transcript.specs.Sights.{found_by}
use Rattle.hq_transcript.specs.Step.{begun}
use Rattle.hq_transcript.specs.Transcript.{Standing, own, behind, Replied}
use Rattle.hq_transcript.specs.History.{replay_history}
use Rattle.hq_turns.specs.Counts.{Counts}
use Rattle.hq_turns.specs.Now.{Now}
use Rattle.hq_turns.specs.Ends.{IsAsBefore, Ended, tailed}
use Rattle.hq_turns.specs.Hand.{InHand}
use Rattle.hq_session.specs.declared.session.Session.{Session}
use Rattle.hq_session.specs.declared.turn.Turn.{Turn}
use Rattle.hq_session.specs.Keeps.{IsInOrder, txn_of}
use Rattle.hq_session.specs.Waits.{Outcome, RowsOfBytes}
use Rattle.hq_serve.specs.Served.{kinds_by}

pub record Spot : Type 0 where
  pub pieces : List Piece
  pub replies : List (Option Reply)
  pub end : Standing
  pub tails : ℕ
  pub piece : Option Piece
  pub counts : Counts

-- session k of a catalogue of so many nodes; `file_rows` gives the rows of a file's bytes
module _ (file_rows : RowsOfBytes) (nodes k : ℕ) where
  -- the statement is the next one behind those pieces: what it finds, and its entries, are what the history has of it
  abbrev pub now_at : Spot → List Noted → Now
  now_at spot history = record {
    found = found_by binds k spot.pieces (replay_history file_rows nodes history) (begun spot.end.state) spot.end.next;
    state = spot.end.state;
    lanes = spot.end.lanes;
    number = spot.end.next;
    piece = spot.piece;
    entries = own (entries_of history) k spot.end.next;
    counts = spot.counts;
    history = history;
  }

  -- the replies are those to the pieces before it
  abbrev pub HasReplied : Bool → Spot → List Noted → Type 0
  HasReplied told spot history =
      Replied binds told k (replay_history file_rows nodes history) (entries_of history) spot.pieces spot.replies spot.end

  -- the lanes that went back with a tail are those before it and its own
  abbrev pub HasTails : Spot → List Noted → Type 0
  HasTails spot history = tailed (kinds_by k history) ≡ spot.tails + tailed (own (entries_of history) k spot.end.next)

  -- that of the next piece, behind this reply to p, from these counts on
  abbrev pub next_spot : Bool → Spot → List Noted → Piece → Option Reply → Counts → Spot
  next_spot told spot history p r c = record {
    pieces = spot.pieces ++ p ∷ [];
    replies = spot.replies ++ r ∷ [];
    end = behind binds told k (spot.pieces ++ p ∷ []) (replay_history file_rows nodes history) (entries_of history) spot.end p r;
    tails = tailed (kinds_by k history);
    piece = None;
    counts = c;
  }

  -- `files` and `seals` tell their bytes
  module _ (files seals : Bool) (spot : Spot) (history : List Noted) where
    -- it has come to this turn
    pub record IsRunning {F Z : Type 0} (s : Session F Z) (c : Counts) (turn : Turn F Z) : Type 0 where
      pub replied : HasReplied (files && seals) spot history
      pub tails : HasTails spot history
      pub outcome : Outcome (files && seals) (now_at spot history) s c turn
      pub hand : IsInOrder files seals nodes k history turn (txn_of s).lanes

    -- it has come to this reply, or to none
    pub record HasEnded {F Z : Type 0} (s : Session F Z) (c : Counts) (reply : Option Reply) : Type 0 where
      pub replied : HasReplied (files && seals) spot history
      pub tails : HasTails spot history
      pub ended : Ended binds (files && seals) (now_at spot history) reply (txn_of s) c
      pub hand : InHand files seals k history (txn_of s).lanes

    -- the session waits for its next piece
    pub record IsWaiting {F Z : Type 0} (s : Session F Z) (c : Counts) : Type 0 where
      pub replied : HasReplied (files && seals) spot history
      pub tails : HasTails spot history
      pub entries : (now_at spot history).entries ≡ []
      pub change : (now_at spot history).found.change ≡ None
      pub before : IsAsBefore (files && seals) (now_at spot history) (txn_of s) c
      pub hand : InHand files seals k history (txn_of s).lanes

-- what lets a session's asks be answered: its statement of this number has come to this turn
abbrev pub CanSettle : {F Z : Type 0} → Bool → Bool → ℕ → ℕ → ℕ → List Noted → Session F Z → Counts → Turn F Z → Type 0
CanSettle files seals nodes k m history s c turn =
    (file_rows : RowsOfBytes) × (spot : Spot) × (m ≡ spot.end.next) × IsRunning file_rows nodes k files seals spot history s c turn

-- what lets its next piece, of this number, be answered
abbrev pub CanGoOn : {F Z : Type 0} → Bool → Bool → ℕ → ℕ → ℕ → List Noted → Session F Z → Counts → Type 0
CanGoOn files seals nodes k m history s c =
    (file_rows : RowsOfBytes) × (spot : Spot) × (m ≡ spot.end.next) × IsWaiting file_rows nodes k files seals spot history s c
