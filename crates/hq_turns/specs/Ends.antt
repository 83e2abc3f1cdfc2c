-- How a statement begins and ends, by what is known of it and by the session's transaction and counts.
--     Does binds told now entries r     with these entries and this reply it is a step; at the session's end, these are its Backs
--     IsAsBefore told now t c           while it runs, and has not failed, the transaction is as it was
--     Begins, Closes                    a piece begins; the session ends
--     Ended                             the session has replied
--     Owes                              it owes a reply, once it has given its lanes back, if so
--     Fails                             it has failed
use Rattle.std.specs.Prelude.{◌≡◌, ℕ, suc, Bool, true, false, List, [], ◌∷◌, ◌++◌, Option, Some, None}
use Rattle.hq_value.specs.Causes.{RoseBy}
use Rattle.hq_value.specs.declared.entry.EntryKind.{EntryKind}
use Rattle.hq_value.specs.declared.entry.EntryKind.TheVariants as entry
use Rattle.hq_history.specs.Deposits.{tables_left}
use Rattle.hq_lane.specs.Lanes.{LaneState}
use Rattle.hq_txn.specs.Transactions.{Transaction}
use Rattle.hq_txn.specs.declared.state.TxnState.{TxnState}
use Rattle.hq_txn.specs.declared.state.TxnState.TheVariants as txn
use Rattle.hq_reply.specs.declared.fault.Fault.{Fault}
use Rattle.hq_reply.specs.declared.fault.Fault.TheVariants as fault
use Rattle.hq_reply.specs.declared.reply.Reply.{Reply}
use Rattle.hq_reply.specs.declared.reply.Reply.TheVariants as reply
use Rattle.hq_transcript.specs.Pieces.{Piece}
use Rattle.hq_transcript.specs.Tables.{Put}
use Rattle.hq_transcript.specs.Binding.{Binder}
use Rattle.hq_transcript.specs.Sights.{Sight, Found, rows_put}
use Rattle.hq_transcript.specs.Step.{State, Idle, Open, Failed, Lanes, Step, state_after, lanes_after, AreBacks, mark_down}
use Rattle.hq_turns.specs.Counts.{Counts, Later, IsCause, IsCaused}
use Rattle.hq_turns.specs.Now.{Now}
use Rattle.hq_turns.specs.Held.{slots, Holds}

-- ---- states

-- where the transaction then stands
abbrev pub txn_state : State → TxnState
txn_state Idle = txn.Idle
txn_state (Open b) = txn.Open
txn_state (Failed b) = txn.Failed

-- a transaction that is given up, where it was open
abbrev pub given_up : TxnState → TxnState
given_up txn.Idle = txn.Idle
given_up txn.Open = txn.Failed
given_up txn.Failed = txn.Failed

-- behind an error
abbrev pub failed : State → State
failed Idle = Idle
failed (Open b) = Failed b
failed (Failed b) = Failed b

-- the session's state behind a reply; behind its end it is idle
abbrev pub state_by_piece : Now → Option Piece → Option Reply → State
state_by_piece now None r = Idle
state_by_piece now (Some piece) r = state_after now.state now.number piece r

abbrev pub state_behind : Now → Option Reply → State
state_behind now r = state_by_piece now now.piece r

-- ---- what a statement does

-- how many lanes went back with a tail
abbrev pub tailed : List EntryKind → ℕ
tailed [] = 0
tailed (entry.Back t n false ∷ es) = suc (tailed es)
tailed (e ∷ es) = tailed es

-- what the statement puts
abbrev pub put_by_piece : Binder → Found → Option Piece → List Put
put_by_piece binds found None = []
put_by_piece binds found (Some piece) = rows_put binds found.look found.own piece

-- the lanes that are still to give back, if so
abbrev pub Tail : Bool → Lanes → List EntryKind → Type 0
Tail true lanes es = AreBacks lanes es
Tail false lanes es = es ≡ []

-- where lanes go back the statement leaves the session idle, and else it is there already
abbrev pub IsDue : Bool → TxnState → State → Type 0
IsDue true t st = st ≡ Idle
IsDue false t st = t ≡ txn_state st

module _ (told : Bool) where
  -- while a statement runs, and has not failed, the transaction is as it was
  pub record IsAsBefore (now : Now) (t : Transaction) (c : Counts) : Type 0 where
    pub state : t.state ≡ txn_state now.state
    pub lanes : slots t.lanes ≡ lanes_after now.lanes now.entries
    pub idle : now.state ≡ Idle → (t.lanes ≡ []) × (now.found.own ≡ [])
    pub own : t.state ≡ txn.Open → Holds told (tables_left now.history) t.lanes now.found.own
    pub tails : tailed now.entries ≡ 0
    pub later : Later now.counts c

  -- a piece begins
  pub record Begins (now : Now) (p : Piece) (t : Transaction) (c : Counts) : Type 0 where
    pub piece : now.piece ≡ Some p
    pub entries : now.entries ≡ []
    pub change : now.found.change ≡ None
    pub before : IsAsBefore now t c

  -- the session ends
  pub record Closes (now : Now) (t : Transaction) (c : Counts) : Type 0 where
    pub piece : now.piece ≡ None
    pub entries : now.entries ≡ []
    pub before : IsAsBefore now t c

module _ (binds : Binder) (told : Bool) where
  abbrev pub DoesBy : Now → Option Piece → List EntryKind → Option Reply → Type 0
  DoesBy now None entries r = AreBacks now.lanes entries × (r ≡ None)
  DoesBy now (Some piece) entries r = Step binds told now.found now.state now.lanes piece entries r

  abbrev pub Does : Now → List EntryKind → Option Reply → Type 0
  Does now entries r = DoesBy now now.piece entries r

  -- the session has replied: it is the reply of a step, it is where that step leaves it, its lanes in an open transaction hold that
  -- transaction's rows, a fault has its cause, and each lane with a tail a failed cut
  pub record Ended (now : Now) (r : Option Reply) (t : Transaction) (c : Counts) : Type 0 where
    pub does : Does now now.entries r
    pub state : t.state ≡ txn_state (state_behind now r)
    pub lanes : slots t.lanes ≡ lanes_after now.lanes now.entries
    pub own : t.state ≡ txn.Open → Holds told (tables_left now.history) t.lanes (now.found.own ++ put_by_piece binds now.found now.piece)
    pub cause : IsCaused now.counts c r
    pub tails : RoseBy (tailed now.entries) (now.counts.stores 0) (c.stores 0)
    pub later : Later now.counts c

  -- the session owes this reply behind these entries: once it has given its lanes back, if so
  pub record Owes (now : Now) (give : Bool) (entries : List EntryKind) (r : Option Reply) (t : Transaction) (c : Counts) : Type 0 where
    pub does : (es : List EntryKind) → Tail give (slots t.lanes) es → Does now (entries ++ es) r
    pub state : IsDue give t.state (state_behind now r)
    pub lanes : slots t.lanes ≡ lanes_after now.lanes entries
    pub own : give ≡ false → t.state ≡ txn.Open → Holds told (tables_left now.history) t.lanes (now.found.own ++ put_by_piece binds now.found now.piece)
    pub cause : IsCaused now.counts c r
    pub tails : RoseBy (tailed entries) (now.counts.stores 0) (c.stores 0)
    pub later : Later now.counts c

  -- the statement fails, and gives its lanes back, if so. Where a host failed there may be no memory to mark it
  pub record Fails (now : Now) (why : Fault) (give : Bool) (t : Transaction) (c : Counts) : Type 0 where
    pub does : (es : List EntryKind) → Tail give (slots t.lanes) es → Does now ((now.entries ++ mark_down why) ++ es) (Some (reply.Error why))
    pub unmarked : (n : ℕ) → why ≡ fault.Host n → (es : List EntryKind) → Tail give (slots t.lanes) es → Does now (now.entries ++ es) (Some (reply.Error fault.NoMemory))
    pub leaves : (w : Fault) → state_behind now (Some (reply.Error w)) ≡ failed now.state
    pub state : IsDue give t.state now.state
    pub lanes : slots t.lanes ≡ lanes_after now.lanes now.entries
    pub cause : IsCause now.counts c why
    pub tails : RoseBy (tailed now.entries) (now.counts.stores 0) (c.stores 0)
    pub later : Later now.counts c
