-- Why a session ended, and what it then wrote.
use Rattle.std.specs.Prelude.{◌≡◌, ◌⊎◌, ◌+◌, ◌^◌, ◌<◌, ◌≤◌, ℕ, false, List, [], ◌∷◌, ◌++◌, length, Option, Some, IfSome, Result, IfErr}
use Rattle.std.specs.Io.KnownBytes.{append_known}
use Rattle.hq_value.specs.Causes.{Rose}
use Rattle.hq_io.specs.Told.{IfTold}
use Rattle.hq_io.specs.Pieces.{Piece, pieces_of, ended_pieces}
use Rattle.hq_io.specs.Reading.{Reading, Ends}
use Rattle.hq_table.specs.Kept.{TableState}
use Rattle.hq_server.specs.Stands.{Stands}
use Rattle.hq_server.specs.Course.{Moment, course, pieces_in, reply_at, text_of, Transcript}
use Rattle.hq_server.specs.declared.why.EndWhy.{EndWhy}
use Rattle.hq_server.specs.declared.why.EndWhy.TheVariants.{End, SourceFault, SinkFault, InputLimit, NoMemory}

-- an input has more pieces or more bytes than it may
abbrev pub IsOverLimit : List ℕ → Type 0
IsOverLimit input = (100000 < length (pieces_of input)) ⊎ (2 ^ 32 < length input)

-- a source that gave this and has left the rest gave a piece more than an input may have, ended or at the end, or a byte more
abbrev pub GaveTooMuch : List ℕ → List ℕ → Type 0
GaveTooMuch given left = (100000 < length (ended_pieces given)) ⊎ (((left ≡ []) × (100000 < length (pieces_of given))) ⊎ (2 ^ 32 < length given))

-- what the source gave passes a limit
abbrev pub PassesLimits : List ℕ → List ℕ → Type 0
PassesLimits input left = (given : List ℕ) × (input ≡ given ++ left) × GaveTooMuch given left

-- the bytes are the replies to the pieces whose `;` the source gave
abbrev pub TranscriptGiven : List ℕ → List ℕ → List ℕ → Type 0
TranscriptGiven bytes input left = (given : List ℕ) × (input ≡ given ++ left) × Transcript (ended_pieces given) bytes

-- the bytes are the replies before that to some piece, and a prefix of its own
pub record TranscriptPart (pieces : List Piece) (bytes : List ℕ) : Type 0 where
  pub before : List Moment
  pub last : Moment
  pub later : List Piece
  pub pieces_are : pieces ≡ pieces_in before ++ last.0 ∷ later
  pub prefix : List ℕ
  pub rest : List ℕ
  pub reply : text_of (reply_at (course before) last) ≡ prefix ++ rest
  pub written : bytes ≡ (course before).written ++ prefix

-- the first items of a list, so many, or all where there are no more
pub record AreFirst {X : Type 0} (most : ℕ) (whole first : List X) : Type 0 where
  pub more : List X
  pub parts : whole ≡ first ++ more
  pub most_or_all : (length first ≡ most) ⊎ ((more ≡ []) × (length first ≤ most))

-- the bytes are the replies to the pieces that ended within both limits: the first 100,000 pieces that end in the first
-- 4,294,967,296 bytes
pub record TranscriptWithin (input bytes : List ℕ) : Type 0 where
  pub within : List ℕ
  pub first_bytes : AreFirst (2 ^ 32) input within
  pub pieces : List Piece
  pub first_pieces : AreFirst 100000 (ended_pieces within) pieces
  pub transcript : Transcript pieces bytes

-- What a session wrote for its input, by why it ended, over a source that then has these bytes left.
abbrev pub Serves : EndWhy → List ℕ → List ℕ → Option (List ℕ) → Type 0
-- at the end of the input just the replies to its pieces, which are within the limits
Serves End input bytes left = Transcript (pieces_of input) bytes × (IsOverLimit input → ⊥)
-- where the source failed, those to the pieces whose `;` it gave
Serves SourceFault input bytes left = IfTold (Some input) left (TranscriptGiven bytes)
-- where the sink failed, those before that to some piece, and a prefix of its own
Serves SinkFault input bytes left = TranscriptPart (pieces_of input) bytes
-- at a limit, those to the pieces that ended within both, and what the source gave passes one
Serves InputLimit input bytes left = TranscriptWithin input bytes × IfTold (Some input) left PassesLimits
-- without memory nothing, before the first piece was read
Serves NoMemory input bytes left = (bytes ≡ []) × (left ≡ Some input)

-- what a session wrote for its input stands behind what its sink was given before
abbrev pub ServesOnto : EndWhy → Option (List ℕ) → Option (List ℕ) → Option (List ℕ) → List ℕ → Type 0
ServesOnto why left first now input = (bytes : List ℕ) × (now ≡ append_known first bytes) × Serves why input bytes left

-- Why a session ended, over a source that first had and now has left, and a sink that was first given and now has these.
pub record Ended (why : EndWhy) (whole left first now : Option (List ℕ)) : Type 0 where
  pub served : IfSome whole (ServesOnto why left first now)
  -- without memory nothing was read and nothing written, also where the bytes are not told
  pub memory : why ≡ NoMemory → (now ≡ first) × (left ≡ whole)

-- the replies so far, and what is still to be cut
pub record Served (first now : Option (List ℕ)) (kept : List TableState) (reader : Reading) (whole rest : List ℕ) : Type 0 where
  pub moments : List Moment
  pub written : now ≡ append_known first (course moments).written
  pub stands : Stands kept (course moments).tables
  pub pieces : pieces_of whole ≡ pieces_in moments ++ pieces_of rest
  pub count : length moments ≡ reader.pieces
  pub bytes : reader.taken + length rest ≡ length whole
  pub ends : reader.ended ≡ false → Ends (pieces_in moments) whole rest

-- a fault is answered only where that object's count rose
pub record Causes (why : EndWhy) (source source' sink sink' : ℕ) : Type 0 where
  pub source_later : source ≤ source'
  pub sink_later : sink ≤ sink'
  pub source_fault : why ≡ SourceFault → Rose source source'
  pub sink_fault : why ≡ SinkFault → Rose sink sink'

pub record MayEnd (result : Result Unit EndWhy) (source source' sink sink' : ℕ) : Type 0 where
  pub source_later : source ≤ source'
  pub sink_later : sink ≤ sink'
  pub causes : IfErr result (λ why. Causes why source source' sink sink')
