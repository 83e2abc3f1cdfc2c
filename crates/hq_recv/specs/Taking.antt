-- What a receiver answers and keeps, and what it hands over.
--     took r sent            what it answers
--     after r sent           what it has then
--     drained r              what it has once it has handed over its bytes
--     with_more taken n xs   the bytes by sender, with more of sender n
use Rattle.std.specs.Prelude.{◌≡◌, ℕ, ◌+◌, ◌-◌, ◌<◌, ◌≤◌, Bool, true, false, ◌||◌, List, [], ◌++◌, Option, Some, None, length, nat_lt, nat_le, ◌==◌, if◌then◌else◌}
use Rattle.hq_stream.specs.Piece.{Piece, Bytes, End}
use Rattle.hq_stream.specs.Receiving.{Receiving, is_over, came}
use Rattle.hq_stream.specs.TwoEnds.{Sent}
use Rattle.hq_link.specs.declared.route.Route.{Route}
use Rattle.hq_recv.specs.declared.took.Took.{Took}
use Rattle.hq_recv.specs.declared.took.Took.TheVariants.{New, Old, Ahead, Foreign}

-- a receiver: its stream, and what it has of it
pub record Taker : Type 0 where
  pub route : Route
  pub state : Receiving

-- what is answered to a piece of that number
abbrev pub took_of : Receiving → ℕ → Took
took_of r n =
    if nat_lt n r.wanted then Old
    else if is_over r || nat_le (r.wanted + 16) n then Foreign
    else if n == r.wanted then New
    else Ahead

-- what is answered to a piece of the stream, or to anything else
abbrev pub took : Receiving → Option Sent → Took
took r None = Foreign
took r (Some s) = took_of r s.number

-- what is there after it
abbrev pub after : Receiving → Option Sent → Receiving
after r None = r
after r (Some s) = came r s.number s.piece

-- the bytes were handed over
abbrev pub drained : Taker → Taker
drained r = record r { state = record r.state { got = [] } }

-- more bytes of one sender
abbrev pub with_more : (ℕ → List ℕ) → ℕ → List ℕ → ℕ → List ℕ
with_more taken from bytes n = if n == from then taken n ++ bytes else taken n
