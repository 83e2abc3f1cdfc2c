-- What the pump's functions say of an exchange.
--     at lanes link base taken fault    an exchange in which no answer is owed
--     StandsAt s i lane link            a stream of it, and its link
--     moved s i lane link fault         the stream and the link have changed
--     begun q m to streams link     an exchange as it begins
--     pieces_of streams             how many Data and Eos pieces they have
--     work_left lanes link base     falls with each turn
--     IsEnd base seq now fault e    how an exchange ends that did not give its streams
use Rattle.std.specs.List.{list_all}
use Rattle.std.specs.Prelude.{position, ◌≡◌, ◌⊎◌, ℕ, suc, ◌+◌, ◌-◌, ◌*◌, ◌^◌, ◌<◌, ◌≤◌, min, Bool, true, false, List, [], ◌∷◌, take, map, Option, Some, None, Result, Ok, Err, slice_get, slice_set, if◌then◌else◌}
use Rattle.hq_value.specs.Causes.{Rose}
use Rattle.hq_stream.specs.Piece.{eos}
use Rattle.hq_link.specs.declared.link.LinkFault.{LinkFault}
use Rattle.hq_link.specs.declared.link.LinkFault.TheVariants as fault
use Rattle.hq_link.specs.declared.link.Got.TheVariants as got
use Rattle.hq_link.specs.Link.{LinkState, IsNext}
use Rattle.hq_stream.specs.Receiving.{fresh}
use Rattle.hq_link.specs.declared.route.Route.{Route}
use Rattle.hq_link.specs.declared.datagram.Datagram.{Datagram}
use Rattle.hq_link.specs.Reading.{gram_at}
use Rattle.hq_send.specs.Sending.{Sending, due_now}
use Rattle.hq_pump.specs.declared.end.ExchangeEnd.{ExchangeEnd}
use Rattle.hq_pump.specs.declared.end.ExchangeEnd.TheVariants as end_variant
use Rattle.hq_pump.specs.declared.lane.Lane.{Lane}
use Rattle.hq_pump.specs.Exchange.{Exchange, IsItsOwn, IsReady, Run, is_done, is_from, is_open}

-- no answer is owed
abbrev pub at : List Lane → LinkState → ℕ → (ℕ → List ℕ) → Option LinkFault → Exchange
at lanes link base taken fault = record { lanes = lanes; link = link; base = base; taken = taken; owed = None; fault = fault }

-- a stream of it, its link, and nothing owed
pub record StandsAt (s : Exchange) (i : ℕ) (lane : Lane) (link : LinkState) : Type 0 where
  pub lane_is : slice_get s.lanes i ≡ Some lane
  pub link_is : s.link ≡ link
  pub owed : s.owed ≡ None
  pub whole : s.fault ≡ None

-- the stream and the link have changed
abbrev pub moved : Exchange → ℕ → Lane → LinkState → Option LinkFault → Exchange
moved s i lane link fault = record s { lanes = slice_set s.lanes i lane; link = link; fault = fault }

-- a datagram has come, which is not heard yet
pub record Arrives (s : Exchange) (i : ℕ) (lane : Lane) (count : ℕ) (into : List ℕ) (link : LinkState) (bytes : List ℕ) (taken : ℕ → List ℕ) : Type 0 where
  pub ready : IsReady s
  pub lane_is : slice_get s.lanes i ≡ Some lane
  pub next : IsNext s.link (Ok (got.Bytes count)) into link
  pub bytes_are : take count into ≡ bytes
  pub own : IsItsOwn lane (gram_at bytes)
  pub taken_is : s.taken ≡ taken

-- it was heard, and an answer may be owed
pub record StandsOwing (s : Exchange) (i : ℕ) (lane : Lane) (link : LinkState) (taken : ℕ → List ℕ) (owes : Bool) : Type 0 where
  pub lane_is : slice_get s.lanes i ≡ Some lane
  pub link_is : s.link ≡ link
  pub taken_is : s.taken ≡ taken
  pub owed : s.owed ≡ (if owes then Some i else None)
  pub whole : s.fault ≡ None

-- the stream, the link and what was taken have changed, and no answer is owed
abbrev pub heard : Exchange → ℕ → Lane → LinkState → (ℕ → List ℕ) → Option LinkFault → Exchange
heard s i lane link taken fault = record { lanes = slice_set s.lanes i lane; link = link; base = s.base; taken = taken; owed = None; fault = fault }

-- so many troubles since the last new acknowledgement, or the count at its type's end, and the stream is lost
abbrev pub lost_at : ℕ → ℕ
lost_at base = min (base + 32) (2 ^ 64 - 1)

abbrev pub IsLost : ℕ → ℕ → Type 0
IsLost base now = lost_at base ≤ now

-- what a lowest number that is due again weighs
abbrev pub again_weight : Bool → ℕ
again_weight true = 3
again_weight false = 0

-- numbers of a stream that are not acknowledged, and those never sent
abbrev pub stream_left : Sending → ℕ
stream_left s = 8000 * (suc (eos s.stream) - s.acked) + 3 * (suc (eos s.stream) - s.next) + again_weight s.again

abbrev pub streams_left : List Lane → ℕ
streams_left [] = 0
streams_left (lane ∷ lanes) = stream_left lane.sender + streams_left lanes

-- troubles that may still come, and what is flying
abbrev pub link_left : LinkState → ℕ → ℕ
link_left link base = 200 * (min (base + 32) (2 ^ 64 - 1) - link.troubles) + 2 * link.others + link.acks

abbrev pub work_left : List Lane → LinkState → ℕ → ℕ
work_left lanes link base = streams_left lanes + link_left link base

-- the lowest number not acknowledged, where there is a stream
abbrev pub lowest_of : Option Lane → ℕ
lowest_of None = 0
lowest_of (Some lane) = lane.sender.acked

-- that of the stream at a place
abbrev pub lowest_at : List Lane → Option ℕ → ℕ
lowest_at lanes None = 0
lowest_at lanes (Some place) = lowest_of (slice_get lanes place)

-- that of the first stream that isn't done
abbrev pub first_open : List Lane → ℕ
first_open lanes = lowest_at lanes (position is_open lanes)

-- all streams are done
abbrev pub all_done : List Lane → Bool
all_done lanes = list_all is_done lanes

-- no stream is done
abbrev pub AreOpen : List Lane → Type 0
AreOpen lanes = (i : ℕ) (lane : Lane) → slice_get lanes i ≡ Some lane → is_done lane ≡ false

-- how an exchange is over: all streams are done, and so many troubles never came, but where there was no stream; or so
-- many troubles came, which goes first; or a call failed
abbrev pub IsOver : Exchange → Result Unit ExchangeEnd → Type 0
IsOver s (Ok done) = (all_done s.lanes ≡ true) × (s.fault ≡ None) × (s.owed ≡ None) × (IsLost s.base s.link.troubles → s.lanes ≡ [])
IsOver s (Err (end_variant.LinkLost seq troubles)) =
    IsLost s.base s.link.troubles × (seq ≡ first_open s.lanes) × (troubles ≡ s.link.troubles - s.base)
IsOver s (Err end_variant.LinkFailed) = (IsLost s.base s.link.troubles → ⊥) × (s.fault ≡ Some fault.Failed)
IsOver s (Err end_variant.NoMemory) = (IsLost s.base s.link.troubles → ⊥) × (s.fault ≡ Some fault.NoMemory)

-- an exchange has run to its end
pub record HasRun (start : Exchange) (link : LinkState) (taken : ℕ → List ℕ) (result : Result Unit ExchangeEnd) : Type 0 where
  pub over : Exchange
  pub run : Run start over
  pub link_is : over.link ≡ link
  pub taken_is : over.taken ≡ taken
  pub how : IsOver over result

-- how it ends by a fault, or by being lost
abbrev pub IsEnd : ℕ → ℕ → ℕ → LinkFault → ExchangeEnd → Type 0
IsEnd base seq now f (end_variant.LinkLost n troubles) = IsLost base now × (n ≡ seq) × (troubles ≡ now - base)
IsEnd base seq now f end_variant.LinkFailed = (IsLost base now → ⊥) × (f ≡ fault.Failed)
IsEnd base seq now f end_variant.NoMemory = (IsLost base now → ⊥) × (f ≡ fault.NoMemory)

-- nothing is due in so many of the streams in front
abbrev pub AreIdle : List Lane → ℕ → Type 0
AreIdle lanes count = (i : ℕ) (lane : Lane) → i < count → slice_get lanes i ≡ Some lane → due_now lane.sender ≡ None

-- the place of the stream whose datagram it is
abbrev pub place_in : List Lane → Option Datagram → Option ℕ
place_in lanes None = None
place_in lanes (Some d) = position (is_from d.from) lanes

abbrev pub place_of : List Lane → List ℕ → Option ℕ
place_of lanes bytes = place_in lanes (gram_at bytes)

-- a datagram has come to the streams, which is not heard yet
pub record Comes (s : Exchange) (lanes : List Lane) (base count : ℕ) (into : List ℕ) (link : LinkState) (bytes : List ℕ) (taken : ℕ → List ℕ) : Type 0 where
  pub ready : IsReady s
  pub lanes_are : s.lanes ≡ lanes
  pub base_is : s.base ≡ base
  pub next : IsNext s.link (Ok (got.Bytes count)) into link
  pub bytes_are : take count into ≡ bytes
  pub taken_is : s.taken ≡ taken

-- the count of troubles that a turn answers, or the one before
abbrev pub base_of : ℕ → Result ℕ LinkFault → ℕ
base_of base (Ok now) = now
base_of base (Err e) = base

-- two new ends of a stream from its sender
abbrev pub new_lane : ℕ → ℕ → ℕ → ℕ × List ℕ → Lane
new_lane query motion to stream =
    let route : Route = record { from = stream.0; to = to; motion = motion; query = query } in
    record {
      sender = record { route = route; stream = stream.1; next = 0; acked = 0; again = false };
      receiver = record { route = route; state = fresh };
    }

-- an exchange of these streams as it begins: two new ends of each
abbrev pub begun : ℕ → ℕ → ℕ → List (ℕ × List ℕ) → LinkState → (ℕ → List ℕ) → Exchange
begun query motion to streams link taken = at (map (new_lane query motion to) streams) link link.troubles taken None

-- how many Data and Eos pieces the streams have
abbrev pub pieces_of : List (ℕ × List ℕ) → ℕ
pieces_of [] = 0
pieces_of (stream ∷ streams) = suc (eos stream.1) + pieces_of streams

-- the numbers of the streams stay far below the greatest of a datagram
abbrev pub AreShort : List Lane → Type 0
AreShort lanes = (i : ℕ) (lane : Lane) → slice_get lanes i ≡ Some lane → eos lane.sender.stream < 2 ^ 60

-- they do, or there was no memory to begin
abbrev pub AreShortOr : List Lane → LinkState → LinkState → Result Unit ExchangeEnd → Type 0
AreShortOr lanes old new result = AreShort lanes ⊎ ((result ≡ Err end_variant.NoMemory) × (new ≡ old))

-- an exchange has run to its end, or there was no memory to begin it
abbrev pub HasRunOr : Exchange → LinkState → (ℕ → List ℕ) → Result Unit ExchangeEnd → Type 0
HasRunOr start link taken result =
    HasRun start link taken result
    ⊎ ((result ≡ Err end_variant.NoMemory) × (link ≡ start.link) × (taken ≡ start.taken))

-- an exchange that failed, or lost its link, has its cause in the counts
pub record HasItsCause (old new : LinkState) (result : Result Unit ExchangeEnd) : Type 0 where
  pub failed : result ≡ Err end_variant.LinkFailed → Rose old.faults new.faults
  pub lost : (seq troubles : ℕ) → result ≡ Err (end_variant.LinkLost seq troubles) → IsLost old.troubles new.troubles
