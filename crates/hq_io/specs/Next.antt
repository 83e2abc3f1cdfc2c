-- What the next piece is, and what it says of the input.
use Rattle.std.specs.Prelude.{◌≡◌, ◌≢◌, ◌+◌, ◌^◌, ◌≤◌, ℕ, true, false, List, [], length, Result, Ok, Err, IfOk, IsSome, OnErr}
use Rattle.std.specs.declared.option.Option.{Option}
use Rattle.std.specs.Io.KnownBytes.{IsAtEnd}
use Rattle.hq_io.specs.Told.{IfTold}
use Rattle.hq_io.specs.Reading.{Reading, ahead, pieces_given, Cuts, Breaks, PassesLimit, HasMost}
use Rattle.hq_io.specs.declared.kind.Kind.{Kind}
use Rattle.hq_io.specs.declared.kind.Kind.TheVariants as kinds
use Rattle.hq_io.specs.declared.piece.Piece.{Piece}
use Rattle.hq_io.specs.declared.piece.Piece.TheVariants as pieces

-- a piece without its text
abbrev pub kind_in : Piece → Kind
kind_in (pieces.Statement text) = kinds.Statement
kind_in pieces.TooLong = kinds.TooLong
kind_in pieces.Unended = kinds.Unended
kind_in pieces.End = kinds.End
kind_in pieces.Limit = kinds.Limit

-- a statement shows the text; no other piece does
abbrev pub Shows : Piece → List ℕ → Type 0
Shows (pieces.Statement shown) text = shown.now ≡ text
Shows _ text = Unit {0}

-- an answer without its text
abbrev pub kind_result : {E : Type 0} → Result Piece E → Result Kind E
kind_result (Ok piece) = Ok (kind_in piece)
kind_result (Err fault) = Err fault

-- a reader's step from old to new, over a source that had left and has left'
pub record Steps {E : Type 0} (result : Result Kind E) (old new : Reading) (left left' : Option (List ℕ)) : Type 0 where
  pub piece : IfOk result (λ kind. kind ≢ kinds.Limit → IfTold (ahead old left) (ahead new left') (Cuts kind old new))
  pub limit : IfOk result (λ kind. kind ≡ kinds.Limit → IfTold (ahead old left) (ahead new left') (PassesLimit old new))
  pub most : IfOk result (λ kind. kind ≡ kinds.Limit → HasMost old new)
  pub pieces : IfOk result (λ kind. kind ≢ kinds.Limit → new.pieces ≡ old.pieces + length (pieces_given kind new.text))
  pub ended : IfOk result (λ kind. kind ≡ kinds.End → new.ended ≡ true)
  pub told : IsSome left → IsSome left'
  pub at_end : IfOk result (λ _. (old.ended ≡ true → IsAtEnd left) → new.ended ≡ true → IsAtEnd left')
  pub unended : IfOk result (λ kind. kind ≡ kinds.Unended → new.ended ≡ true)
  pub over : old.ended ≡ true → result ≡ Ok kinds.End
  pub fault : OnErr result (IfTold (ahead old left) left' (Breaks old new))
  pub kept : OnErr result ((new.held ≡ []) × (new.ended ≡ false) × (new.pieces ≡ old.pieces))
  pub was_within : (old.pieces ≤ 100000) × (old.taken ≤ 2 ^ 32)
  pub within : (new.pieces ≤ 100000) × (new.taken ≤ 2 ^ 32)
