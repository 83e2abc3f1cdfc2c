-- What a session waits for, and what its turn says of the statement that runs.
--     Waits told now ask t c awaited     it has asked this, and waits for the answer
--     Outcome told now s c turn          it waits for what it has asked; its reply is that of a step
--     CanHear awaited answer             this answer can come to what it waits for
--     Opens told now piece t c           this piece begins a statement, or ends the session
--     Takes .. now input ..              it is handed this, and `now` is then what is known
--     TakesLanes .. now input ..         and so are the lanes in hand
use Rattle.std.specs.Prelude.{ℕ, ◌&&◌, Bool, true, false, List, Some, None}
use Rattle.hq_value.specs.declared.kind.Kind.{Kind}
use Rattle.hq_value.specs.declared.value.Value.{Value}
use Rattle.hq_io.specs.Pieces as io
use Rattle.hq_io.specs.declared.piece.Piece as given
use Rattle.hq_io.specs.declared.piece.Piece.TheVariants as piece
use Rattle.hq_catalog.specs.declared.ask.Ask.{Ask}
use Rattle.hq_catalog.specs.declared.ask.Answer.{Answer}
use Rattle.hq_catalog.specs.declared.ask.Answer.TheVariants as answer
use Rattle.hq_txn.specs.Transactions.{Transaction}
use Rattle.hq_transcript.specs.Pieces.{Too_long, No_statement}
use Rattle.hq_transcript.specs.Reading.{piece_of}
use Rattle.hq_transcript.specs.Binds.{binds}
use Rattle.hq_turns.specs.Counts.{Counts, Later}
use Rattle.hq_turns.specs.Now.{Now, Heard}
use Rattle.hq_turns.specs.Ends.{Begins, Closes, Ended}
use Rattle.hq_turns.specs.Asked.{AsksAtEnd, AsksCreate, AsksAlter}
use Rattle.hq_turns.specs.Hand.{InHand, IsLawful}
use Rattle.hq_session.specs.declared.awaited.Awaited.{Awaited}
use Rattle.hq_session.specs.declared.awaited.Awaited.TheVariants as awaited
use Rattle.hq_session.specs.declared.session.Session.{Session}
use Rattle.hq_session.specs.declared.turn.Input.{Input}
use Rattle.hq_session.specs.declared.turn.Input.TheVariants as input
use Rattle.hq_session.specs.declared.turn.Turn.{Turn}
use Rattle.hq_session.specs.declared.turn.Turn.TheVariants as turn

abbrev pub awaited_of : {F Z : Type 0} → Session F Z → Awaited
awaited_of s = s.awaited

-- the rows of bytes of these kinds
abbrev pub RowsOfBytes : Type 0
RowsOfBytes = List Kind → List ℕ → List (List Value)

-- this answer can come to what is waited for
abbrev pub CanHear : {F Z : Type 0} → Awaited → Answer F Z → Type 0
CanHear awaited.Create (answer.Made t) = Unit {0}
CanHear awaited.Create answer.Exists = Unit {0}
CanHear awaited.Create (answer.TooManyTables made) = Unit {0}
CanHear awaited.Create answer.NoMemory = Unit {0}
CanHear awaited.Alter (answer.Altered t) = Unit {0}
CanHear awaited.Alter answer.NoTable = Unit {0}
CanHear awaited.Alter (answer.TooManyColumns columns) = Unit {0}
CanHear awaited.Alter answer.ColumnThere = Unit {0}
CanHear awaited.Alter answer.NoMemory = Unit {0}
CanHear (awaited.Ending reply give) answer.Done = Unit {0}
CanHear (awaited.Ending reply give) answer.NoMemory = Unit {0}
CanHear _ _ = ⊥

-- it is an answer
abbrev pub is_answer : {F Z : Type 0} → Input F Z → Bool
is_answer (input.Piece p) = false
is_answer (input.Answer x) = true

-- a piece, or an answer that can come
abbrev pub CanTake : {F Z : Type 0} → Awaited → Input F Z → Type 0
CanTake awaiting (input.Piece p) = Unit {0}
CanTake awaiting (input.Answer x) = CanHear awaiting x

module _ (told : Bool) where
  -- it has asked this, and waits for the answer
  abbrev pub Waits : {F Z : Type 0} → Now → Ask F Z → Transaction → Counts → Awaited → Type 0
  Waits now a t c awaited.Piece = ⊥
  Waits now a t c awaited.Create = AsksCreate binds told now a t c
  Waits now a t c awaited.Alter = AsksAlter told now a t c
  Waits now a t c (awaited.Ending reply give) = AsksAtEnd binds told now a give reply t c

  -- it waits for what it has asked; its reply is that of a step
  abbrev pub Outcome : {F Z : Type 0} → Now → Session F Z → Counts → Turn F Z → Type 0
  Outcome now s c (turn.Ask a) = Waits now a s.txn c s.awaited
  Outcome now s c (turn.Reply r) = Ended binds told now (Some r) s.txn c
  Outcome now s c turn.Nothing = Ended binds told now None s.txn c

  -- this piece begins a statement, or ends the session
  abbrev pub Opens : Now → given.Piece → Transaction → Counts → Type 0
  Opens now (piece.Statement text) t c = Begins told now (piece_of (io.statement text.now)) t c
  Opens now piece.TooLong t c = Begins told now Too_long t c
  Opens now piece.Unended t c = Begins told now No_statement t c
  Opens now piece.End t c = Closes told now t c
  Opens now piece.Limit t c = Closes told now t c

  -- what was asked was heard, and this is then known
  pub record Answered {F Z : Type 0} (nodes k : ℕ) (now : Now) (x : Answer F Z) (t : Transaction) (c : Counts) (awaiting : Awaited) : Type 0 where
    pub file_rows : RowsOfBytes
    pub before : Now
    pub ask : Ask F Z
    pub counts : Counts
    pub waits : Waits before ask t counts awaiting
    pub later : Later counts c
    pub heard : Heard file_rows told nodes k before ask x now

  -- it is handed this, and `now` is then what is known
  abbrev pub Takes : {F Z : Type 0} → ℕ → ℕ → Now → Input F Z → Transaction → Counts → Awaited → Type 0
  Takes nodes k now (input.Piece p) t c awaiting = Opens now p t c
  Takes nodes k now (input.Answer x) t c awaiting = Answered nodes k now x t c awaiting

-- it is handed this, and what is then known says which lanes it has in hand
abbrev pub TakesLanes : {F Z : Type 0} → Bool → Bool → ℕ → ℕ → Now → Input F Z → Transaction → Counts → Awaited → Type 0
TakesLanes files seals nodes k now (input.Piece p) t c awaiting = InHand files seals k now.history t.lanes
TakesLanes files seals nodes k now (input.Answer x) t c awaiting =
    (h : Answered (files && seals) nodes k now x t c awaiting) × IsLawful files seals nodes k h.before.history h.ask t.lanes
