-- Places for pieces.
use Rattle.std.specs.Prelude.{◌≡◌, ℕ, ◌+◌, Bool, true, false, List, [], ◌∷◌, ◌++◌, ◌<◌, ◌≤◌, length, drop, replicate, Option, Some, None}
use Rattle.hq_stream.specs.Piece.{Piece, Bytes, End}
use Rattle.hq_stream.specs.Receiving.{Receiving, taken, filled_up}
use Rattle.hq_recv.specs.declared.slot.Filling.{Filling}
use Rattle.hq_recv.specs.declared.slot.Filling.TheVariants as filling
use Rattle.hq_recv.specs.declared.took.Brought.{Brought}
use Rattle.hq_recv.specs.declared.took.Brought.TheVariants as brought

-- what stands in a place
abbrev pub seen_as : Filling → List ℕ → Option Piece
seen_as filling.Empty bytes = None
seen_as filling.Bytes bytes = Some (Bytes bytes)
seen_as filling.End bytes = Some End

-- what a place gave, and what stands behind the bytes then
abbrev pub Gives : Option Piece → Filling → List ℕ → List ℕ → Type 0
Gives slot filling.Empty old new = (slot ≡ None) × (new ≡ old)
Gives slot filling.End old new = (slot ≡ Some End) × (new ≡ old)
Gives slot filling.Bytes old new = (bytes : List ℕ) × (slot ≡ Some (Bytes bytes)) × (new ≡ old ++ bytes)

-- no piece waits to be taken
abbrev pub IsWaiting : List (Option Piece) → Type 0
IsWaiting [] = Unit {0}
IsWaiting (None ∷ slots) = Unit {0}
IsWaiting (Some piece ∷ slots) = ⊥

-- the piece that was brought
abbrev pub piece_from : Brought → Piece
piece_from (brought.Bytes bytes) = Bytes bytes.now
piece_from brought.End = End

-- a Data brings not too many bytes
abbrev pub IsShort : Brought → Type 0
IsShort (brought.Bytes bytes) = length bytes.now ≤ 1200
IsShort brought.End = Unit {0}

-- so many places in front were taken, with the end or without it
abbrev pub left_by : ℕ → List (Option Piece) → Bool → List (Option Piece)
left_by count slots false = drop count slots
left_by count slots true = []

-- the bytes and the pieces in the places behind the first were taken: so many numbers, and whether the end was one
pub record IsTaken (slots : List (Option Piece)) (bytes got : List ℕ) (count : ℕ) (ended : Bool) (now : List ℕ) : Type 0 where
  pub taken_is : (wanted : ℕ) → taken wanted got (Some (Bytes bytes) ∷ drop 1 slots)
      ≡ record { wanted = wanted + count; got = now; ended = ended; kept = left_by count slots ended }

-- the same with the places filled up again
pub record IsSettled (slots : List (Option Piece)) (bytes got : List ℕ) (count : ℕ) (ended : Bool) (now : List ℕ) (left : List (Option Piece)) : Type 0 where
  pub settled_is : (wanted : ℕ) → filled_up (taken wanted got (Some (Bytes bytes) ∷ drop 1 slots))
      ≡ record { wanted = wanted + count; got = now; ended = ended; kept = left }
