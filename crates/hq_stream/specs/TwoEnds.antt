-- Two ends of one stream over a wire that may lose, repeat and reorder.
--     World          the stream, what the sender knows, the receiver, and all that was ever sent, either way
--     Event          what happens next. A loss is a delivery that never comes; a foreign datagram changes nothing
--     run events w   what is there after a whole schedule
--     IsSafe w       what holds after each schedule
use Rattle.std.specs.Prelude.{◌≡◌, ℕ, suc, ◌+◌, ◌<◌, ◌≤◌, true, ◌&&◌, List, [], ◌∷◌, ◌++◌, take, Option, Some, None, slice_get, nat_lt, nat_le, if◌then◌else◌}
use Rattle.std.specs.List.{AllByRecursion}
use Rattle.hq_stream.specs.Piece.{Piece, eos, piece_at}
use Rattle.hq_stream.specs.Receiving.{Receiving, fresh, came, IsOf}

-- a piece on its way
pub record Sent : Type 0 where
  pub number : ℕ
  pub piece : Piece

pub record World : Type 0 where
  pub stream : List ℕ
  pub acked : ℕ
  pub receiver : Receiving
  pub sent : List Sent
  pub asked : List ℕ

-- the sender sends a number of its window; one of all that were ever sent comes to the receiver; the receiver says
-- which number it wants; one of all that it ever said comes to the sender
pub data Event : Type 0 where
  Send : ℕ → Event
  Deliver : ℕ → Event
  Ask : Event
  Acknowledge : ℕ → Event

-- nothing sent and nothing taken
abbrev pub start : List ℕ → World
start stream = record { stream = stream; acked = 0; receiver = fresh; sent = []; asked = [] }

abbrev pub sends : World → ℕ → Option Piece → World
sends w n None = w
sends w n (Some piece) = record w { sent = record { number = n; piece = piece } ∷ w.sent }

abbrev pub comes : World → Option Sent → World
comes w None = w
comes w (Some s) = record w { receiver = came w.receiver s.number s.piece }

-- an answer counts where it is above the earlier ones and at most one above the end
abbrev pub acknowledges : World → Option ℕ → World
acknowledges w None = w
acknowledges w (Some n) = if nat_lt w.acked n && nat_le n (suc (eos w.stream)) then record w { acked = n } else w

abbrev pub happens : World → Event → World
happens w (Send n) = if nat_lt n (w.acked + 16) then sends w n (piece_at w.stream n) else w
happens w (Deliver place) = comes w (slice_get w.sent place)
happens w Ask = record w { asked = w.receiver.wanted ∷ w.asked }
happens w (Acknowledge place) = acknowledges w (slice_get w.asked place)

abbrev pub run : List Event → World → World
run [] w = w
run (e ∷ events) w = run events (happens w e)

-- each piece on its way is one of the stream; what was taken is a front of the stream; each answer on its way was
-- true when it was said, and stays so; what counts as acknowledged was taken
pub record IsSafe (bytes : List ℕ) (w : World) : Type 0 where
  pub stream : w.stream ≡ bytes
  pub receiver : IsOf bytes [] w.receiver
  pub sent : AllByRecursion (λ s. piece_at bytes s.number ≡ Some s.piece) w.sent
  pub asked : AllByRecursion (λ n. n ≤ w.receiver.wanted) w.asked
  pub acked : w.acked ≤ w.receiver.wanted
