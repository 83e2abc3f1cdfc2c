-- What holds of a session whatever it is told, and how many asks may come.
--     number_of, nodes_of, txn_of s      its number, the catalogue's number of nodes, and its transaction
--     IsSound t                          an idle transaction has no lane, and no lane in hand has a fresh seal
--     Keeps old new                      the number and the nodes stay
--     turn_of reply                      the turn that gives this reply, or none
--     asks_left s                        how many asks may still come before the reply
--     IsInOrder .. history turn lanes    it may ask what it asks; the lanes in hand and in the ask are those that it has
use Rattle.std.specs.Prelude.{◌≡◌, ℕ, ◌+◌, Bool, true, false, List, [], length, Option, Some, None}
use Rattle.std.specs.List.{All}
use Rattle.hq_lane.specs.Lanes.{LaneState, HaveNoSeal}
use Rattle.hq_history.specs.declared.noted.Noted.{Noted}
use Rattle.hq_txn.specs.Transactions.{Transaction}
use Rattle.hq_txn.specs.declared.state.TxnState.TheVariants as txn
use Rattle.hq_reply.specs.declared.reply.Reply.{Reply}
use Rattle.hq_turns.specs.Hand.{InHand, IsLawful}
use Rattle.hq_session.specs.declared.awaited.Awaited.{Awaited}
use Rattle.hq_session.specs.declared.awaited.Awaited.TheVariants as awaited
use Rattle.hq_session.specs.declared.session.Session.{Session}
use Rattle.hq_session.specs.declared.turn.Turn.{Turn}
use Rattle.hq_session.specs.declared.turn.Turn.TheVariants as turn

abbrev pub number_of : {F Z : Type 0} → Session F Z → ℕ
number_of s = s.number

-- how many nodes the catalogue has
abbrev pub nodes_of : {F Z : Type 0} → Session F Z → ℕ
nodes_of s = s.nodes

abbrev pub txn_of : {F Z : Type 0} → Session F Z → Transaction
txn_of s = s.txn

-- an idle transaction has no lane, and no lane in hand has a fresh seal
pub record IsSound (t : Transaction) : Type 0 where
  pub idle : t.state ≡ txn.Idle → t.lanes ≡ []
  pub no_seal : All (λ (lane : LaneState). HaveNoSeal lane.files) t.lanes

-- the number and the nodes stay
pub record Keeps {F Z : Type 0} (old new : Session F Z) : Type 0 where
  pub number : new.number ≡ old.number
  pub nodes : new.nodes ≡ old.nodes

-- the turn that gives this reply, or none
abbrev pub turn_of : {F Z : Type 0} → Option Reply → Turn F Z
turn_of (Some r) = turn.Reply r
turn_of None = turn.Nothing

abbrev pub is_ask : {F Z : Type 0} → Turn F Z → Bool
is_ask (turn.Ask a) = true
is_ask _ = false

-- each answer lowers it
abbrev pub weight : Awaited → ℕ
weight awaited.Piece = 0
weight (awaited.Ending reply give) = 1
weight _ = 2

abbrev pub asks_left : {F Z : Type 0} → Session F Z → ℕ
asks_left s = weight s.awaited + length s.txn.lanes

-- Session k of a catalogue of so many nodes may ask what it asks, over this history. The lanes in hand, and the ones in the ask,
-- are just those that it has.
abbrev pub IsInOrder : {F Z : Type 0} → Bool → Bool → ℕ → ℕ → List Noted → Turn F Z → List LaneState → Type 0
IsInOrder files seals nodes k history (turn.Ask a) lanes = IsLawful files seals nodes k history a lanes
IsInOrder files seals nodes k history _ lanes = InHand files seals k history lanes
