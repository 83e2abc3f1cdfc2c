-- An exchange: both ends of some streams over one link, and the steps that it takes, one call of the link each.
--     Exchange              the two ends of each stream, the link, the count of troubles at the last new
--                           acknowledgement or at the start, the bytes taken by sender, the stream whose answer is
--                           owed, and why a call failed, where one did
--     Step s t              one step
--     Run s t               any number of them
use Rattle.std.specs.Prelude.{◌≡◌, ℕ, ◌^◌, ◌<◌, Bool, true, false, ◌&&◌, ◌||◌, not, List, [], take, map, Option, Some, None, Result, Ok, Err, slice_get, slice_set, nat_lt, ◌==◌, if◌then◌else◌}
use Rattle.hq_value.specs.declared.fault.Failed.{Failed}
use Rattle.hq_stream.specs.Piece.{Piece, eos, piece_at}
use Rattle.hq_link.specs.declared.datagram.Datagram.{Datagram}
use Rattle.hq_link.specs.declared.link.Got.TheVariants.{Bytes, Quiet}
use Rattle.hq_link.specs.declared.link.LinkFault.{LinkFault}
use Rattle.hq_link.specs.declared.link.LinkFault.TheVariants as link_fault
use Rattle.hq_link.specs.Gram.{gram_bytes}
use Rattle.hq_link.specs.Reading.{gram_at}
use Rattle.hq_link.specs.Link.{LinkState, IsSent, IsNext}
use Rattle.hq_link.specs.Streams.{gram_of, ack_of, probe_of, piece_in, ack_in, is_probe_of}
use Rattle.hq_send.specs.Sending.{due_now, after_due, is_new, after_ack, after_quiet}
use Rattle.hq_recv.specs.Taking.{Taker, took, after, drained, with_more}
use Rattle.hq_recv.specs.declared.took.Took.{Took}
use Rattle.hq_recv.specs.declared.took.Took.TheVariants.{New, Old, Ahead, Foreign}
use Rattle.hq_pump.specs.declared.lane.Lane.{Lane}

pub record Exchange : Type 0 where
  pub lanes : List Lane
  pub link : LinkState
  pub base : ℕ
  pub taken : ℕ → List ℕ
  pub owed : Option ℕ
  pub fault : Option LinkFault

-- why a call failed
abbrev pub fault_of : {A : Type 0} → Result A LinkFault → Option LinkFault
fault_of (Ok a) = None
fault_of (Err e) = Some e

-- the end of the stream was acknowledged; it was taken too
abbrev pub is_sent : Lane → Bool
is_sent lane = nat_lt (eos lane.sender.stream) lane.sender.acked

abbrev pub is_done : Lane → Bool
is_done lane = is_sent lane && lane.receiver.state.ended

-- one of both isn't
abbrev pub is_open : Lane → Bool
is_open lane = not (is_done lane)

-- what a sender may say: the piece of a number that is due, or a question
pub data Says (lane : Lane) : List ℕ → Lane → Type 0 where
  piece : (n : ℕ) (p : Piece) → n < 2 ^ 64 → due_now lane.sender ≡ Some n → piece_at lane.sender.stream n ≡ Some p
      → Says lane (gram_bytes (gram_of lane.sender.route n p)) (record lane { sender = after_due lane.sender })
  probe : lane.sender.acked < 2 ^ 64 → Says lane (gram_bytes (probe_of lane.sender.route lane.sender.acked)) lane

-- what is there once a datagram was heard
abbrev pub acknowledged : Lane → ℕ → Lane
acknowledged lane n = record lane { sender = after_ack lane.sender n }

abbrev pub received : Taker → List ℕ → Taker
received r x = record r { state = after r.state (piece_in r.route x) }

-- an answer is owed to a piece of the stream, and to a question
abbrev pub answers : Took → Bool
answers New = true
answers Old = true
answers Ahead = true
answers Foreign = false

abbrev pub owes : Taker → List ℕ → Bool
owes r x = answers (took r.state (piece_in r.route x)) || is_probe_of r.route x

-- whose datagram it is
abbrev pub is_from : ℕ → Lane → Bool
is_from n lane = lane.sender.route.from == n

-- no stream is from there
abbrev pub IsNobodys : List Lane → Option Datagram → Type 0
IsNobodys lanes None = Unit {0}
IsNobodys lanes (Some d) = (i : ℕ) (lane : Lane) → slice_get lanes i ≡ Some lane → is_from d.from lane ≡ false

-- it is from this stream's node
abbrev pub IsItsOwn : Lane → Option Datagram → Type 0
IsItsOwn lane None = ⊥
IsItsOwn lane (Some d) = is_from d.from lane ≡ true

-- nothing is due in any stream, and one isn't done: it is time to ask the link
pub record IsReady (s : Exchange) : Type 0 where
  pub idle : (i : ℕ) (lane : Lane) → slice_get s.lanes i ≡ Some lane → due_now lane.sender ≡ None
  pub place : ℕ
  pub lane : Lane
  pub at : slice_get s.lanes place ≡ Some lane
  pub goes_on : is_done lane ≡ false
  pub owes_none : s.owed ≡ None
  pub whole : s.fault ≡ None

-- an end sends; an Ack is what was owed
pub record Sends (s t : Exchange) : Type 0 where
  pub place : ℕ
  pub lane : Lane
  pub bytes : List ℕ
  pub result : Result Unit LinkFault
  pub left : Lane
  pub link : LinkState
  pub at : slice_get s.lanes place ≡ Some lane
  pub says : Says lane bytes left
  pub owed : s.owed ≡ None
  pub whole : s.fault ≡ None
  pub sent : IsSent s.link bytes result link
  pub is : t ≡ record s { lanes = slice_set s.lanes place left; link = link; fault = fault_of result }

-- the answer that is owed
pub record Answers (s t : Exchange) : Type 0 where
  pub place : ℕ
  pub lane : Lane
  pub result : Result Unit LinkFault
  pub link : LinkState
  pub at : slice_get s.lanes place ≡ Some lane
  pub owed : s.owed ≡ Some place
  pub seq : lane.receiver.state.wanted < 2 ^ 64
  pub handed : lane.receiver.state.got ≡ []
  pub whole : s.fault ≡ None
  pub sent : IsSent s.link (gram_bytes (ack_of lane.receiver.route lane.receiver.state.wanted)) result link
  pub is : t ≡ record s { link = link; owed = None; fault = fault_of result }

-- an acknowledgement came. From a new one on troubles count anew
pub record IsTold (s t : Exchange) : Type 0 where
  pub ready : IsReady s
  pub place : ℕ
  pub lane : Lane
  pub n : ℕ
  pub count : ℕ
  pub into : List ℕ
  pub link : LinkState
  pub next : IsNext s.link (Ok (Bytes count)) into link
  pub at : slice_get s.lanes place ≡ Some lane
  pub ack : ack_in lane.sender.route (take count into) ≡ Some n
  pub is : t ≡ record s { lanes = slice_set s.lanes place (acknowledged lane n); link = link; base = if is_new lane.sender n then link.troubles else s.base }

-- a piece or a question came, for the stream of the node that it is from
pub record Hears (s t : Exchange) : Type 0 where
  pub ready : IsReady s
  pub place : ℕ
  pub lane : Lane
  pub count : ℕ
  pub into : List ℕ
  pub link : LinkState
  pub next : IsNext s.link (Ok (Bytes count)) into link
  pub at : slice_get s.lanes place ≡ Some lane
  pub own : IsItsOwn lane (gram_at (take count into))
  pub no_ack : ack_in lane.sender.route (take count into) ≡ None
  pub is : t ≡ record s {
    lanes = slice_set s.lanes place (record lane { receiver = received lane.receiver (take count into) });
    link = link;
    owed = if owes lane.receiver (take count into) then Some place else None;
  }

-- what came was nobody's, or could not be kept
pub record Misses (s t : Exchange) : Type 0 where
  pub ready : IsReady s
  pub count : ℕ
  pub into : List ℕ
  pub link : LinkState
  pub fault : Option LinkFault
  pub next : IsNext s.link (Ok (Bytes count)) into link
  pub nobodys : fault ≡ None → IsNobodys s.lanes (gram_at (take count into))
  pub memory : fault ≡ Some link_fault.Failed → ⊥
  pub is : t ≡ record s { link = link; fault = fault }

-- nothing came: the lowest number of each stream is due again
abbrev pub asked_again : Lane → Lane
asked_again lane = record lane { sender = after_quiet lane.sender }

pub record Rests (s t : Exchange) : Type 0 where
  pub ready : IsReady s
  pub into : List ℕ
  pub link : LinkState
  pub next : IsNext s.link (Ok Quiet) into link
  pub is : t ≡ record s { lanes = map asked_again s.lanes; link = link }

-- the link failed
pub record Fails (s t : Exchange) : Type 0 where
  pub ready : IsReady s
  pub failed : Failed
  pub into : List ℕ
  pub link : LinkState
  pub next : IsNext s.link (Err failed) into link
  pub is : t ≡ record s { link = link; fault = Some link_fault.Failed }

-- what was accepted of a stream is handed over
pub record HandsOver (s t : Exchange) : Type 0 where
  pub place : ℕ
  pub lane : Lane
  pub at : slice_get s.lanes place ≡ Some lane
  pub whole : s.fault ≡ None
  pub taken : ℕ → List ℕ
  pub more : (n : ℕ) → taken n ≡ with_more s.taken lane.receiver.route.from lane.receiver.state.got n
  pub is : t ≡ record s { lanes = slice_set s.lanes place (record lane { receiver = drained lane.receiver }); taken = taken }

-- one step: at most one call of the link
pub data Step (s t : Exchange) : Type 0 where
  sends : Sends s t → Step s t
  answers_it : Answers s t → Step s t
  is_told : IsTold s t → Step s t
  hears : Hears s t → Step s t
  misses : Misses s t → Step s t
  rests : Rests s t → Step s t
  fails : Fails s t → Step s t
  hands_over : HandsOver s t → Step s t
  gives_up : t ≡ record s { owed = None; fault = Some link_fault.NoMemory } → Step s t

-- any number of steps
pub data Run (s : Exchange) : Exchange → Type 0 where
  still : Run s s
  more : (t u : Exchange) → Run s t → Step t u → Run s u
