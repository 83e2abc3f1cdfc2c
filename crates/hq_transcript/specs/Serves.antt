-- What a session wrote for its input, by why it ended. What its replies are is a parameter: over a log and all inputs, or over a history.
--     Wrote why replies bytes             these bytes were written for these replies
--     Serves Replied why input left bytes
--     RepliedOver ..                      the replies to the first j pieces of session k, over a log and the inputs
use Rattle.std.specs.Prelude.{◌≡◌, ℕ, Bool, List, [], ◌∷◌, ◌++◌, length, Option, Some}
use Rattle.hq_value.specs.declared.entry.Entry.{Entry}
use Rattle.hq_reply.specs.declared.reply.Reply.{Reply}
use Rattle.hq_reply.specs.Texts.{reply_text, replies_text}
use Rattle.hq_transcript.specs.declared.why.EndWhy.{EndWhy}
use Rattle.hq_transcript.specs.declared.why.EndWhy.TheVariants.{SinkFault}
use Rattle.hq_transcript.specs.Pieces.{Piece}
use Rattle.hq_transcript.specs.Reading.{pieces_in}
use Rattle.hq_transcript.specs.Reaching.{Reaches}
use Rattle.hq_transcript.specs.Binding.{Binder}
use Rattle.hq_transcript.specs.Sights.{Replay, replay}
use Rattle.hq_transcript.specs.Transcript.{Ended}

-- ---- what was written

-- the texts of the replies; where the sink failed all before the last, and a first part of the last
abbrev pub Wrote : EndWhy → List (Option Reply) → List ℕ → Type 0
Wrote SinkFault replies bytes =
    (before : List (Option Reply)) × (last : Reply) × (part : List ℕ) × (rest : List ℕ)
    × (replies ≡ before ++ Some last ∷ []) × (reply_text last ≡ part ++ rest) × (bytes ≡ replies_text before ++ part)
Wrote _ replies bytes = bytes ≡ replies_text replies

-- a session that ended so wrote these bytes for its input, over a source that then has these left
abbrev pub Serves : (ℕ → List (Option Reply) → Type 0) → EndWhy → List ℕ → Option (List ℕ) → List ℕ → Type 0
Serves Replied why input left bytes =
    (j : ℕ) × (replies : List (Option Reply)) × Reaches why input left j × Replied j replies × Wrote why replies bytes

-- ---- what the replies are

-- the replies to the first j pieces of an input, over what a log or a history leaves
abbrev pub RepliedBy : Binder → Bool → ℕ → Replay → List Entry → List ℕ → ℕ → List (Option Reply) → Type 0
RepliedBy binds told k r log input j replies =
    (pieces : List Piece) × (later : List Piece) × (pieces_in input ≡ pieces ++ later) × (length pieces ≡ j) × Ended binds told k r log pieces replies

-- over a log and the inputs of all sessions
abbrev pub RepliedOver : Binder → Bool → ℕ → (ℕ → List ℕ) → List Entry → ℕ → ℕ → List (Option Reply) → Type 0
RepliedOver binds told nodes inputs log k j replies =
    RepliedBy binds told k (replay binds (λ i. pieces_in (inputs i)) nodes log) log (inputs k) j replies
