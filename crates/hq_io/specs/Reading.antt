-- What a reader of pieces holds, and what each step of it says of the input.
use Rattle.std.specs.Prelude.{◌≡◌, ◌⊎◌, ◌+◌, ◌^◌, ◌<◌, ℕ, Bool, true, false, List, [], ◌∷◌, ◌++◌, length, Some}
use Rattle.std.specs.declared.option.Option.{Option}
use Rattle.std.specs.Io.KnownBytes.{prepend_known}
use Rattle.hq_io.specs.Pieces.{Piece, statement, too_long, unended, pieces_of, ended_pieces}
use Rattle.hq_io.specs.declared.kind.Kind.{Kind}
use Rattle.hq_io.specs.declared.kind.Kind.TheVariants as kind

-- a reader: the bytes read and not yet taken, whether the input has ended, the text of the last piece, and how many pieces and bytes it has taken
pub record Reading : Type 0 where
  pub held : List ℕ
  pub ended : Bool
  pub text : List ℕ
  pub pieces : ℕ
  pub taken : ℕ

-- what is still to be cut: nothing once the input has ended, else what is held and then what the source has left
abbrev pub ahead_of : Bool → List ℕ → Option (List ℕ) → Option (List ℕ)
ahead_of true held left = Some []
ahead_of false held left = prepend_known held left

-- what is still to be cut
abbrev pub ahead : Reading → Option (List ℕ) → Option (List ℕ)
ahead reader left = ahead_of reader.ended reader.held left

-- the piece that an answer gives; the end is none
abbrev pub pieces_given : Kind → List ℕ → List Piece
pieces_given kind.Statement text = statement text ∷ []
pieces_given kind.TooLong text = too_long ∷ []
pieces_given kind.Unended text = unended ∷ []
pieces_given kind.End text = []
pieces_given kind.Limit text = []

-- the bytes from before up to after end just these pieces, whatever follows
pub record Ends (pieces : List Piece) (before after : List ℕ) : Type 0 where
  pub bytes : List ℕ
  pub taken : before ≡ bytes ++ after
  pub ended : (more : List ℕ) → ended_pieces (bytes ++ more) ≡ pieces ++ ended_pieces more

-- the bytes from before up to after end no piece
pub record EndsNone (before after : List ℕ) : Type 0 where
  pub bytes : List ℕ
  pub taken : before ≡ bytes ++ after
  pub none : ended_pieces bytes ≡ []

-- one piece was given, or the end was, and no other byte was taken
pub record Cuts (kind : Kind) (old new : Reading) (before after : List ℕ) : Type 0 where
  pub pieces : pieces_of before ≡ pieces_given kind new.text ++ pieces_of after
  pub taken : new.taken + length after ≡ old.taken + length before
  pub ended : new.ended ≡ false → Ends (pieces_given kind new.text) before after

-- the source failed after bytes that end no piece
pub record Breaks (old new : Reading) (before after : List ℕ) : Type 0 where
  pub taken : new.taken + length after ≡ old.taken + length before
  pub none : EndsNone before after

-- a piece was given, which ended or was the rest
abbrev pub GivesPiece : Bool → List ℕ → List ℕ → Type 0
GivesPiece ended before after = (piece : Piece) × (pieces_of before ≡ piece ∷ pieces_of after) × (ended ≡ false → Ends (piece ∷ []) before after)

-- all the bytes were taken that an input may have, they end no piece, and a byte more was read
pub record TakesMost (old new : Reading) (before after : List ℕ) : Type 0 where
  pub none : EndsNone before after
  pub taken : new.taken + length after ≡ old.taken + length before
  pub most : new.taken ≡ 2 ^ 32
  pub more : 0 < length new.held
  pub going : new.ended ≡ false

-- the input has a piece more than it may, or a byte more, and the source gave it
abbrev pub PassesLimit : Reading → Reading → List ℕ → List ℕ → Type 0
PassesLimit old new before after = ((old.pieces ≡ 100000) × GivesPiece new.ended before after) ⊎ TakesMost old new before after

-- as many pieces were taken as an input may have, or as many bytes, and a byte more was read; also of what tells no bytes
abbrev pub HasMost : Reading → Reading → Type 0
HasMost old new = (old.pieces ≡ 100000) ⊎ ((new.taken ≡ 2 ^ 32) × (0 < length new.held))
