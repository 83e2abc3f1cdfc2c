-- What holds throughout an exchange.
--     IsHonest route stream wanted x    the datagram brings the stream's receiver a piece of it, or its sender a number
--                                       that the receiver wants or wanted
--     IsSafe q m t first s              each stream has its route, and what was taken is a front of it, where the link
--                                       tells what can arrive
use Rattle.std.specs.Prelude.{◌≡◌, ◌⊎◌, ℕ, ◌^◌, ◌<◌, ◌≤◌, List, ◌++◌, length, take, Option, Some, None, slice_get}
use Rattle.std.specs.Option.{ForSome}
use Rattle.hq_stream.specs.Piece.{piece_at}
use Rattle.hq_stream.specs.Receiving.{IsOf}
use Rattle.hq_link.specs.declared.route.Route.{Route}
use Rattle.hq_link.specs.declared.datagram.Datagram.{Datagram}
use Rattle.hq_link.specs.Reading.{gram_at}
use Rattle.hq_link.specs.Link.{Told, IsIn}
use Rattle.hq_link.specs.Streams.{piece_in, ack_in}
use Rattle.hq_pump.specs.declared.lane.Lane.{Lane}
use Rattle.hq_pump.specs.Exchange.{Exchange}

pub record IsHonest (route : Route) (stream : List ℕ) (wanted : ℕ) (x : List ℕ) : Type 0 where
  pub piece : ForSome (piece_in route x) (λ s. piece_at stream s.number ≡ Some s.piece)
  pub ack : ForSome (ack_in route x) (λ n. n ≤ wanted)

-- both ends of a stream have its route, which is of this exchange
pub record IsRouted (q m t : ℕ) (lane : Lane) : Type 0 where
  pub same : lane.receiver.route ≡ lane.sender.route
  pub query : lane.sender.route.query ≡ q
  pub motion : lane.sender.route.motion ≡ m
  pub to : lane.sender.route.to ≡ t
  pub from_node : lane.sender.route.from < 16

-- so many bytes of the stream were taken before: those that came since, and those not handed over yet, are its front
pub record IsFront (first now : ℕ → List ℕ) (lane : Lane) : Type 0 where
  pub gone : List ℕ
  pub taken : now lane.sender.route.from ≡ first lane.sender.route.from ++ gone
  pub is_of : IsOf lane.sender.stream gone lane.receiver.state
  pub acked : lane.sender.acked ≤ lane.receiver.state.wanted

-- what is said where the link tells what can arrive
abbrev pub WhereKnown : Told → Type 0 → Type 0
WhereKnown None P = Unit {0}
WhereKnown (Some xs) P = P

-- all that is told to come is honest
abbrev pub AreHonest : Route → List ℕ → ℕ → Told → Type 0
AreHonest route stream wanted None = Unit {0}
AreHonest route stream wanted (Some xs) = (x : List ℕ) → IsIn x xs → IsHonest route stream wanted x

pub record IsKnown (first : ℕ → List ℕ) (s : Exchange) : Type 0 where
  pub front : (i : ℕ) (lane : Lane) → slice_get s.lanes i ≡ Some lane → IsFront first s.taken lane
  pub coming : (i : ℕ) (lane : Lane) → slice_get s.lanes i ≡ Some lane
      → AreHonest lane.sender.route lane.sender.stream lane.receiver.state.wanted s.link.may

pub record IsSafe (q m t : ℕ) (first : ℕ → List ℕ) (s : Exchange) : Type 0 where
  pub routed : (i : ℕ) (lane : Lane) → slice_get s.lanes i ≡ Some lane → IsRouted q m t lane
  pub alone : (i j : ℕ) (x y : Lane) → slice_get s.lanes i ≡ Some x → slice_get s.lanes j ≡ Some y
      → x.sender.route.from ≡ y.sender.route.from → i ≡ j
  pub known : WhereKnown s.link.may (IsKnown first s)

-- the numbers of an exchange are within those of a datagram
pub record IsWithin (q m t : ℕ) : Type 0 where
  pub query : q < 2 ^ 64
  pub motion : m < 2 ^ 16
  pub to : t < 16

-- what is told stays told, and each new member is such a one
abbrev pub Grows : Told → Told → (List ℕ → Type 0) → Type 0
Grows None None P = Unit {0}
Grows (Some old) (Some new) P = (x : List ℕ) → IsIn x new → IsIn x old ⊎ P x
Grows None (Some new) P = ⊥
Grows (Some old) None P = ⊥

-- a datagram that was sent before this exchange: its query and motion, compared in this order, are lower
abbrev pub IsEarlier : ℕ → ℕ → Option Datagram → Type 0
IsEarlier q m None = Unit {0}
IsEarlier q m (Some d) = (d.query < q) ⊎ ((d.query ≡ q) × (d.motion < m))

-- all that is told to come was
abbrev pub AreEarlier : ℕ → ℕ → Told → Type 0
AreEarlier q m None = Unit {0}
AreEarlier q m (Some xs) = (x : List ℕ) → IsIn x xs → IsEarlier q m (gram_at x)

-- each stream is from a node of its own
abbrev pub AreAlone : List (ℕ × List ℕ) → Type 0
AreAlone streams = (i j : ℕ) (x y : ℕ × List ℕ) → slice_get streams i ≡ Some x → slice_get streams j ≡ Some y → x.0 ≡ y.0 → i ≡ j

-- what was taken more is a front of these bytes
pub record TakesFront (bytes old new : List ℕ) : Type 0 where
  pub gone : List ℕ
  pub taken : new ≡ old ++ gone
  pub front : gone ≡ take (length gone) bytes

-- the same of each stream
abbrev pub TakeFronts : List (ℕ × List ℕ) → (ℕ → List ℕ) → (ℕ → List ℕ) → Type 0
TakeFronts streams old new = (i : ℕ) (x : ℕ × List ℕ) → slice_get streams i ≡ Some x → TakesFront x.1 (old x.0) (new x.0)

-- each stream was taken more, all of it
abbrev pub TakeAll : List (ℕ × List ℕ) → (ℕ → List ℕ) → (ℕ → List ℕ) → Type 0
TakeAll streams old new = (i : ℕ) (x : ℕ × List ℕ) → slice_get streams i ≡ Some x → new x.0 ≡ old x.0 ++ x.1

-- a datagram of this query and motion
pub record IsOwn (q m : ℕ) (x : List ℕ) : Type 0 where
  pub datagram : Datagram
  pub spelled : gram_at x ≡ Some datagram
  pub query : datagram.query ≡ q
  pub motion : datagram.motion ≡ m
