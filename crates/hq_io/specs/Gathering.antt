-- How a reader gathers the bytes up to the `;` that ends a piece.
use Rattle.std.specs.Prelude.{◌≡◌, ◌+◌, ◌^◌, ◌<◌, ◌≤◌, if◌then◌else◌, ℕ, Bool, true, false, List, [], ◌∷◌, ◌++◌, length, IfSome}
use Rattle.std.specs.declared.option.Option.{Option}
use Rattle.std.specs.Io.KnownBytes.{Consumes, IsAtEnd}
use Rattle.hq_io.specs.Pieces.{MOST, is_blank}
use Rattle.hq_io.specs.declared.kind.Kind.{Kind}
use Rattle.hq_io.specs.declared.kind.Kind.TheVariants as kind
use Rattle.hq_io.specs.Scanning.{Passes, is_outside}
use Rattle.hq_io.specs.declared.scan.Spot.{Spot}
use Rattle.hq_io.specs.declared.scan.Spot.TheVariants as spot
use Rattle.hq_io.specs.declared.gather.Stop.{Stop}
use Rattle.hq_io.specs.declared.gather.Stop.TheVariants as stop
use Rattle.hq_io.specs.declared.held.Part.{Part}
use Rattle.hq_io.specs.declared.held.Part.TheVariants as part

-- all of the bytes are kept, or they are too long for a piece
abbrev pub Kept : Bool → List ℕ → List ℕ → Type 0
Kept true seen text = (MOST < length seen) × (MOST ≤ length text)
Kept false seen text = text ≡ seen

-- bytes that end no piece, the spot behind them, and what is kept of them
pub record Gathered (seen : List ℕ) (to : Spot) (long : Bool) (text : List ℕ) : Type 0 where
  pub passes : Passes spot.Outside seen to
  pub kept : Kept long seen text
  pub fits : length text ≤ MOST

-- the same where a `;` behind the bytes ends the piece
abbrev pub GatheredOutside : List ℕ → Bool → List ℕ → Type 0
GatheredOutside seen long text = (to : Spot) × Gathered seen to long text × (is_outside to ≡ true)

-- from the beginning of a piece on these bytes end none
pub record EndsNoPiece (seen : List ℕ) : Type 0 where
  pub to : Spot
  pub passes : Passes spot.Outside seen to

-- from the held bytes old on up to new: a part of a piece, the end of one and its `;`, or all that an input may have
abbrev pub TakesPart : Part → List ℕ → List ℕ → List ℕ → List ℕ → ℕ → ℕ → Type 0
TakesPart (part.Inside long to) seen text old new before now = Gathered (seen ++ old) to long text × (new ≡ []) × (now ≡ before + length old)
TakesPart (part.Ended long) seen text old new before now = (bytes : List ℕ) × GatheredOutside (seen ++ bytes) long text × (old ≡ bytes ++ 59 ∷ new) × (now ≡ before + length bytes + 1)
TakesPart part.Limit seen text old new before now = (bytes : List ℕ) × EndsNoPiece (seen ++ bytes) × (old ≡ bytes ++ new) × (0 < length new) × (now ≡ before + length bytes) × (now ≡ 2 ^ 32)

-- bytes were taken, and they end no piece
abbrev pub Uncut : Option (List ℕ) → Option (List ℕ) → ℕ → ℕ → Type 0
Uncut old new before now = (seen : List ℕ) × EndsNoPiece seen × Consumes old new seen × (now ≡ before + length seen)

-- the bytes from old on up to new: a piece and its `;`, the rest, or all that an input may have
abbrev pub Stopped : Stop → Option (List ℕ) → Option (List ℕ) → List ℕ → ℕ → ℕ → Type 0
Stopped (stop.Ended long) old new text before now = (seen : List ℕ) × GatheredOutside seen long text × Consumes old new (seen ++ 59 ∷ []) × (now ≡ before + length seen + 1)
Stopped (stop.Rest long) old new text before now = (seen : List ℕ) × ((to : Spot) × Gathered seen to long text) × Consumes old new seen × IsAtEnd new × (now ≡ before + length seen)
Stopped stop.Limit old new text before now = Uncut old new before now × IfSome new (λ more. 0 < length more) × (now ≡ 2 ^ 32)

-- the answer to what was gathered
abbrev pub kind_of : Stop → List ℕ → Kind
kind_of (stop.Ended true) text = kind.TooLong
kind_of (stop.Ended false) text = kind.Statement
kind_of (stop.Rest true) text = kind.TooLong
kind_of (stop.Rest false) text = if is_blank text then kind.End else kind.Unended
kind_of stop.Limit text = kind.Limit

-- the input has ended
abbrev pub is_rest : Stop → Bool
is_rest (stop.Rest _) = true
is_rest _ = false
