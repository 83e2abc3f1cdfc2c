-- What a session writes over one log.
--     own log k m                      the entries of statement m of session k
--     Run .. s left replies end        from one standing to another, over the pieces left, with these replies
--     Replied .. pieces replies end    the replies to a session's first pieces, and where it then stands
--     Ended .. pieces replies          .. and the session has ended there
--     Transcript .. k pieces bytes     session k, which read just these pieces, wrote these bytes
use Rattle.std.specs.Prelude.{◌≡◌, ℕ, suc, Bool, true, nat_le, List, [], ◌∷◌, Option, map, filter, ◌==◌, ◌&&◌}
use Rattle.hq_value.specs.declared.entry.Entry.{Entry}
use Rattle.hq_value.specs.declared.entry.EntryKind.{EntryKind}
use Rattle.hq_reply.specs.declared.reply.Reply.{Reply}
use Rattle.hq_reply.specs.Texts.{replies_text}
use Rattle.hq_transcript.specs.Pieces.{Piece}
use Rattle.hq_transcript.specs.Binding.{Binder}
use Rattle.hq_transcript.specs.Sights.{Replay, replay, found_by}
use Rattle.hq_transcript.specs.Step.{State, Idle, Lanes, begun, Step, state_after, lanes_after, AreBacks}

-- the entries of statement m of session k
abbrev pub own : List Entry → ℕ → ℕ → List EntryKind
own log k m = map (λ (e : Entry). e.kind) (filter (λ (e : Entry). (e.session == k) && (e.statement == m)) log)

-- the statement numbers do not fall, and lie from low up to high
abbrev pub in_order : ℕ → ℕ → List Entry → Bool
in_order low high [] = true
in_order low high (e ∷ es) = nat_le low e.statement && nat_le e.statement high && in_order e.statement high es

-- those of session k
abbrev pub of_session : ℕ → List Entry → List Entry
of_session k log = filter (λ (e : Entry). e.session == k) log

-- where a session stands: the number of its next piece, its state and its lanes
pub record Standing : Type 0 where
  pub next : ℕ
  pub state : State
  pub lanes : Lanes

abbrev pub at_start : Standing
at_start = record { next = 1; state = Idle; lanes = [] }

-- Session k, of whose input these are the pieces, over a log and what it leaves.
module _ (binds : Binder) (told : Bool) (k : ℕ) (pieces : List Piece) (r : Replay) (log : List Entry) where
  -- behind a piece with this reply
  abbrev pub behind : Standing → Piece → Option Reply → Standing
  behind s piece reply = record { next = suc s.next; state = state_after s.state s.next piece reply; lanes = lanes_after s.lanes (own log k s.next) }

  -- what the piece does is a step
  abbrev pub IsStep : Standing → Piece → Option Reply → Type 0
  IsStep s piece reply = Step binds told (found_by binds k pieces r (begun s.state) s.next) s.state s.lanes piece (own log k s.next) reply

  abbrev pub Run : Standing → List Piece → List (Option Reply) → Standing → Type 0
  Run s [] [] end = end ≡ s
  Run s (piece ∷ left) (reply ∷ replies) end = IsStep s piece reply × Run (behind s piece reply) left replies end
  Run s _ _ end = ⊥

-- the replies to a session's first pieces; its entries are of these and of the next one
abbrev pub Replied : Binder → Bool → ℕ → Replay → List Entry → List Piece → List (Option Reply) → Standing → Type 0
Replied binds told k r log pieces replies end =
    Run binds told k pieces r log at_start pieces replies end × (in_order 1 end.next (of_session k log) ≡ true)

-- the session has ended behind these pieces: its lanes in hand went back, under the next number, and it has no other entry
abbrev pub Ended : Binder → Bool → ℕ → Replay → List Entry → List Piece → List (Option Reply) → Type 0
Ended binds told k r log pieces replies = (end : Standing) × Replied binds told k r log pieces replies end × AreBacks end.lanes (own log k end.next)

-- session k, which read just these pieces, wrote these bytes
abbrev pub Transcript : Binder → Bool → ℕ → (ℕ → List Piece) → List Entry → ℕ → List Piece → List ℕ → Type 0
Transcript binds told nodes inputs log k pieces bytes =
    (replies : List (Option Reply)) × Ended binds told k (replay binds inputs nodes log) log pieces replies × (bytes ≡ replies_text replies)
