-- How many pieces a session answered, by why it ended. It rests on the input and the source alone.
--     Reaches why input left j     so many pieces were answered, over a source that then has these bytes left
use Rattle.std.specs.Prelude.{◌≡◌, ◌⊎◌, ℕ, ◌^◌, ◌≤◌, ◌<◌, List, [], ◌++◌, length, Option, Some}
use Rattle.std.specs.Io.KnownBytes.{IsAtEnd}
use Rattle.hq_io.specs.Told.{IfTold}
use Rattle.hq_io.specs.Pieces.{Piece, pieces_of, ended_pieces}
use Rattle.hq_transcript.specs.declared.why.EndWhy.{EndWhy}
use Rattle.hq_transcript.specs.declared.why.EndWhy.TheVariants.{End, SourceFault, SinkFault, InputLimit, NoMemory}

-- an input has more pieces or more bytes than it may
abbrev pub IsOverLimit : List ℕ → Type 0
IsOverLimit input = (100000 < length (pieces_of input)) ⊎ (2 ^ 32 < length input)

-- a source that gave this and has left the rest gave a piece more than an input may have, ended or at the end, or a byte more
abbrev pub GaveTooMuch : List ℕ → List ℕ → Type 0
GaveTooMuch given left = (100000 < length (ended_pieces given)) ⊎ (((left ≡ []) × (100000 < length (pieces_of given))) ⊎ (2 ^ 32 < length given))

-- what the source gave passes a limit
abbrev pub PassesLimits : List ℕ → List ℕ → Type 0
PassesLimits input left = (given : List ℕ) × (input ≡ given ++ left) × GaveTooMuch given left

-- what the source gave ends so many pieces
abbrev pub GaveEnded : ℕ → List ℕ → List ℕ → Type 0
GaveEnded j input left = (given : List ℕ) × (input ≡ given ++ left) × (j ≡ length (ended_pieces given))

-- the first items of a list, so many, or all where there are no more
pub record AreFirst {X : Type 0} (most : ℕ) (whole first : List X) : Type 0 where
  pub more : List X
  pub parts : whole ≡ first ++ more
  pub most_or_all : (length first ≡ most) ⊎ ((more ≡ []) × (length first ≤ most))

-- so many pieces end within both limits: of the first 100,000 those that end in the first 4,294,967,296 bytes
pub record EndWithin (input : List ℕ) (j : ℕ) : Type 0 where
  pub within : List ℕ
  pub first_bytes : AreFirst (2 ^ 32) input within
  pub pieces : List Piece
  pub first_pieces : AreFirst 100000 (ended_pieces within) pieces
  pub count : j ≡ length pieces

-- so many pieces were answered, over a source that then has these bytes left
abbrev pub Reaches : EndWhy → List ℕ → Option (List ℕ) → ℕ → Type 0
-- at the end of the input all, which are within the limits, and it was read to its end
Reaches End input left j = (j ≡ length (pieces_of input)) × (IsOverLimit input → ⊥) × IsAtEnd left
-- where the source failed, those whose `;` it gave
Reaches SourceFault input left j = IfTold (Some input) left (GaveEnded j)
-- where the sink failed, those up to some piece
Reaches SinkFault input left j = (0 < j) × (j ≤ length (pieces_of input))
-- at a limit, those that end within both, and what the source gave passes one
Reaches InputLimit input left j = EndWithin input j × IfTold (Some input) left PassesLimits
-- without memory none was read
Reaches NoMemory input left j = (j ≡ 0) × (left ≡ Some input)
