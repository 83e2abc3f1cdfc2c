-- What a receiver has, and what a piece does to it.
--     Receiving            the number wanted next, the bytes taken and not handed over, whether the end was taken, and
--                          16 places for pieces
--     came r n piece       what is there after a piece came: outside the 16 numbers from the wanted one on, and after
--                          the end, nothing changes; else it is kept, and all that follow the taken ones are taken
--     IsOf stream gone r   what was taken, `gone` being handed over, is a front of the stream, and what is kept are its pieces
use Rattle.std.specs.Prelude.{◌≡◌, ℕ, zero, suc, ◌+◌, ◌-◌, ◌*◌, ◌^◌, ◌≤◌, Bool, true, false, ◌||◌, List, [], ◌∷◌, ◌++◌, length, take, replicate, Option, Some, None, nat_lt, nat_le, slice_set, if◌then◌else◌}
use Rattle.hq_stream.specs.Piece.{Piece, Bytes, End, eos, piece_at}

-- `kept` are the places of the numbers from the wanted one on
pub record Receiving : Type 0 where
  pub wanted : ℕ
  pub got : List ℕ
  pub ended : Bool
  pub kept : List (Option Piece)

-- no byte yet, and 16 empty places
abbrev pub fresh : Receiving
fresh = record { wanted = 0; got = []; ended = false; kept = replicate 16 None }

-- takes the pieces in front of the places, up to the first empty one or the end
abbrev pub taken : ℕ → List ℕ → List (Option Piece) → Receiving
taken wanted got [] = record { wanted = wanted; got = got; ended = false; kept = [] }
taken wanted got (None ∷ kept) = record { wanted = wanted; got = got; ended = false; kept = None ∷ kept }
taken wanted got (Some (Bytes bytes) ∷ kept) = taken (suc wanted) (got ++ bytes) kept
taken wanted got (Some End ∷ kept) = record { wanted = suc wanted; got = got; ended = true; kept = [] }

-- 16 places again
abbrev pub filled_up : Receiving → Receiving
filled_up r = record r { kept = r.kept ++ replicate (16 - length r.kept) None }

-- nothing more is taken: the end was, or the numbers of a window would pass those of a datagram
abbrev pub is_over : Receiving → Bool
is_over r = r.ended || nat_le (2 ^ 64 - 16) r.wanted

-- it is over, or the number isn't one of the 16 from the wanted one on
abbrev pub is_outside : Receiving → ℕ → Bool
is_outside r n = is_over r || (nat_lt n r.wanted || nat_le (r.wanted + 16) n)

abbrev pub came : Receiving → ℕ → Piece → Receiving
came r n piece = if is_outside r n then r else filled_up (taken r.wanted r.got (slice_set r.kept (n - r.wanted) (Some piece)))

-- the pieces in places are those of the stream from number n on
abbrev pub ArePieces : List ℕ → ℕ → List (Option Piece) → Type 0
ArePieces stream n [] = Unit {0}
ArePieces stream n (None ∷ kept) = ArePieces stream (suc n) kept
ArePieces stream n (Some piece ∷ kept) = (piece_at stream n ≡ Some piece) × ArePieces stream (suc n) kept

-- what was taken is the front of the stream below the wanted number, all of it where the end was taken
pub record IsOf (stream gone : List ℕ) (r : Receiving) : Type 0 where
  pub front : gone ++ r.got ≡ take (1200 * r.wanted) stream
  pub within : r.wanted ≤ suc (eos stream)
  pub ended : r.ended ≡ true → r.wanted ≡ suc (eos stream)
  pub not_ended : r.ended ≡ false → r.wanted ≤ eos stream
  pub kept : ArePieces stream r.wanted r.kept
