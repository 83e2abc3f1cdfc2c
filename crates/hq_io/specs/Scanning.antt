-- How bytes are scanned for the `;` that ends a piece.
--     resume spot more            where the next byte stands
--     Passes from bytes to        the bytes end no piece, and lead from one spot to the other, whatever follows
--     CutAt from bytes at         the byte at that place is the first `;` that ends a piece
use Rattle.std.specs.Prelude.{◌≡◌, ◌==◌, ◌<◌, ◌≤◌, ℕ, Bool, true, false, List, ◌++◌, length, take, get_or, Option, MatchOption, if◌then◌else◌}
use Rattle.hq_io.specs.Pieces.{begins, lead, texts_from}
use Rattle.hq_io.specs.declared.place.Place.{Place}
use Rattle.hq_io.specs.declared.place.Place.TheVariants as place
use Rattle.hq_io.specs.declared.scan.Spot.{Spot}
use Rattle.hq_io.specs.declared.scan.Spot.TheVariants as spot
use Rattle.hq_io.specs.declared.scan.Found.{Found}
use Rattle.hq_io.specs.declared.scan.Found.TheVariants as found
use Rattle.hq_io.specs.declared.scan.Step.{Step}
use Rattle.hq_io.specs.declared.scan.Step.TheVariants as step

-- where the next byte stands, by what follows
abbrev pub resume : Spot → List ℕ → Place
resume spot.Outside more = place.Outside
resume spot.Dash more = if begins 45 more then place.Comment else place.Outside
resume spot.Text more = place.Text
resume spot.Comment more = place.Comment

-- a `;` here ends a piece
abbrev pub is_outside : Spot → Bool
is_outside spot.Outside = true
is_outside spot.Dash = true
is_outside spot.Text = false
is_outside spot.Comment = false

-- behind one more byte, which ends no piece
abbrev pub after : Spot → ℕ → Spot
after spot.Outside b = if b == 39 then spot.Text else (if b == 45 then spot.Dash else spot.Outside)
after spot.Dash b = if b == 39 then spot.Text else (if b == 45 then spot.Comment else spot.Outside)
after spot.Text b = if b == 39 then spot.Outside else spot.Text
after spot.Comment b = if b == 10 then spot.Outside else spot.Comment

-- the bytes end no piece, and lead from one spot to the other, whatever follows
abbrev pub Passes : Spot → List ℕ → Spot → Type 0
Passes from bytes to = (more : List ℕ) → texts_from (resume from (bytes ++ more)) (bytes ++ more) ≡ lead bytes (texts_from (resume to more) more)

-- the byte at that place is the first `;` that ends a piece
pub record CutAt (from : Spot) (bytes : List ℕ) (at : ℕ) : Type 0 where
  pub within : at < length bytes
  pub is : get_or bytes at 0 ≡ 59
  pub to : Spot
  pub passes : Passes from (take at bytes) to
  pub outside : is_outside to ≡ true

-- the bytes up to that place, or all, end no piece and leave the spot as it is
abbrev pub Stays : Spot → List ℕ → Option ℕ → Type 0
Stays from bytes mark = MatchOption mark (Passes from bytes from) (λ at. (at < length bytes) × Passes from (take at bytes) from)

-- a `;` that ends a piece, or some bytes that end none
abbrev pub Steps : Spot → List ℕ → Step → Type 0
Steps from bytes (step.Cut at) = CutAt from bytes at
Steps from bytes (step.Past count to) = (0 < count) × (count ≤ length bytes) × Passes from (take count bytes) to

-- the `;` that ends a piece, or the spot behind all bytes
abbrev pub Scans : Spot → List ℕ → Found → Type 0
Scans from bytes (found.Cut at) = CutAt from bytes at
Scans from bytes (found.Through to) = Passes from bytes to
