-- What a session was served, over the history that it was shown.
--     kinds_by k history       what the entries of session k are
--     RepliedAt ..             the replies to the first j pieces of its input, each fault with its cause
--     IsServed .. why          it ended so, and its bytes are those of the replies to its input
--     HasRun .. why            it ended so, behind some pieces; also where its input is not told
--     GrewBy k old new         the history grew by entries of session k alone
use Rattle.std.specs.Prelude.{◌≡◌, ℕ, Bool, List, ◌++◌, map, Option, IfSome}
use Rattle.std.specs.Io.KnownBytes.{append_known}
use Rattle.hq_value.specs.declared.entry.Entry.{Entry}
use Rattle.hq_value.specs.declared.entry.EntryKind.{EntryKind}
use Rattle.hq_history.specs.declared.noted.Noted.{Noted}
use Rattle.hq_history.specs.History.{AllBy, entries_of}
use Rattle.hq_reply.specs.declared.reply.Reply.{Reply}
use Rattle.hq_transcript.specs.declared.why.EndWhy.{EndWhy}
use Rattle.hq_transcript.specs.Pieces.{Piece}
use Rattle.hq_transcript.specs.Binds.{binds}
use Rattle.hq_transcript.specs.Transcript.{of_session, Ended}
use Rattle.hq_transcript.specs.History.{replay_history}
use Rattle.hq_transcript.specs.Serves.{Wrote, Serves, RepliedBy}
use Rattle.hq_turns.specs.Counts.{Counts}
use Rattle.hq_session.specs.Waits.{RowsOfBytes}
use Rattle.hq_serve.specs.Causes.{HaveCauses}

-- the history grew by entries of session k alone
abbrev pub GrewBy : ℕ → List Noted → List Noted → Type 0
GrewBy k old new = (more : List Noted) × (new ≡ old ++ more) × AllBy k more

-- what the entries of session k are
abbrev pub kinds_by : ℕ → List Noted → List EntryKind
kinds_by k history = map (λ (e : Entry). e.kind) (of_session k (entries_of history))

-- these bytes were written behind those that were there
abbrev pub WroteOnto : EndWhy → List (Option Reply) → Option (List ℕ) → Option (List ℕ) → Type 0
WroteOnto why replies first now = (bytes : List ℕ) × (now ≡ append_known first bytes) × Wrote why replies bytes

-- session k of a catalogue of so many nodes, between the counts c and d; `file_rows` gives the rows of a file's bytes, and `told` says
-- whether files and seals tell theirs
module _ (file_rows : RowsOfBytes) (told : Bool) (nodes k : ℕ) (history : List Noted) (c d : Counts) where
  -- the replies to the first j pieces of an input, each fault with its cause
  abbrev pub RepliedAt : List ℕ → ℕ → List (Option Reply) → Type 0
  RepliedAt input j replies =
      RepliedBy binds told k (replay_history file_rows nodes history) (entries_of history) input j replies × HaveCauses replies (kinds_by k history) c d

  -- it ended so: over a source that had all of `whole` and has `left`, its sink, which was first given these bytes, now has those of the
  -- replies behind them
  abbrev pub IsServed : EndWhy → Option (List ℕ) → Option (List ℕ) → Option (List ℕ) → Option (List ℕ) → Type 0
  IsServed why whole left first now =
      IfSome whole (λ input. (bytes : List ℕ) × (now ≡ append_known first bytes) × Serves (RepliedAt input) why input left bytes)

  -- it ended so behind some pieces, and wrote the replies to them; also where the source tells nothing
  pub record HasRun (why : EndWhy) (first now : Option (List ℕ)) : Type 0 where
    pub pieces : List Piece
    pub replies : List (Option Reply)
    pub ended : Ended binds told k (replay_history file_rows nodes history) (entries_of history) pieces replies
    pub causes : HaveCauses replies (kinds_by k history) c d
    pub written : WroteOnto why replies first now
