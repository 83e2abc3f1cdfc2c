-- What a link in memory does, call by call.
--     SimState                where it has its acts from, all that was ever sent, what is flying, and its counts
--     act_now script flying   the act that the next call of `next` takes, and what is left of the script
--     gave act s, acted act s what an act gives, and what is there then
--     state_of s              the link as contracts see it
use Rattle.std.specs.Prelude.{◌≡◌, ◌⊎◌, ℕ, ◌+◌, ◌-◌, ◌*◌, ◌%◌, ◌^◌, ◌<◌, ◌≤◌, min, Bool, true, false, ◌&&◌, ◌||◌, List, [], ◌∷◌, ◌++◌, length, take, drop, remove, Option, Some, None, Result, Ok, Err, slice_get, nat_lt, ◌==◌, if◌then◌else◌}
use Rattle.hq_value.specs.Causes.{raised}
use Rattle.hq_value.specs.declared.fault.Failed.{Failed}
use Rattle.hq_link.specs.declared.datagram.Packet.{Packet}
use Rattle.hq_link.specs.declared.datagram.Packet.TheVariants as packet
use Rattle.hq_link.specs.declared.datagram.Datagram.{Datagram}
use Rattle.hq_link.specs.declared.link.Got.{Got}
use Rattle.hq_link.specs.declared.link.Got.TheVariants.{Bytes, Quiet}
use Rattle.hq_link.specs.declared.link.LinkFault.{LinkFault}
use Rattle.hq_link.specs.declared.link.LinkFault.TheVariants as fault
use Rattle.hq_link.specs.Reading.{gram_at}
use Rattle.hq_link.specs.Link.{LinkState, IsIn, acks_in, others_in}
use Rattle.hq_sim.specs.declared.act.Act.{Act}
use Rattle.hq_sim.specs.declared.act.Act.TheVariants.{Give, Lose, Repeat, Late, Stale, FailSend, FailNext}
use Rattle.hq_sim.specs.declared.script.Script.{Script}
use Rattle.hq_sim.specs.declared.script.Script.TheVariants.{Acts, Dropping, Drawn}
use Rattle.rand_pcg.specs.Lcg.{Lcg}
use Rattle.rand_pcg.specs.Pcg.{pcg32}

pub record SimState : Type 0 where
  pub script : Script
  pub sent : List (List ℕ)
  pub flying : List (List ℕ)
  pub troubles : ℕ
  pub given : ℕ
  pub faults : ℕ

-- the counts are within their type
pub record AreCounts (s : SimState) : Type 0 where
  pub troubles : s.troubles < 2 ^ 64
  pub given : s.given < 2 ^ 64
  pub faults : s.faults < 2 ^ 64

-- it is a Data of that number
abbrev pub is_numbered : ℕ → Packet → ℕ → Bool
is_numbered seq packet.Data n = n == seq
is_numbered seq packet.Eos n = false
is_numbered seq packet.Ack n = false
is_numbered seq packet.Probe n = false

-- the bytes are a Data of that number
abbrev pub is_data_in : ℕ → Option Datagram → Bool
is_data_in seq None = false
is_data_in seq (Some d) = is_numbered seq d.kind d.seq

-- the first that is flying is one
abbrev pub is_data_first : ℕ → List (List ℕ) → Bool
is_data_first seq [] = false
is_data_first seq (x ∷ xs) = is_data_in seq (gram_at x)

-- the act of a draw that isn't Give
abbrev pub picked : ℕ → Act
picked word = if word % 3 == 0 then Lose else if word % 3 == 1 then Repeat else Late 1

-- the draw says that it isn't Give
abbrev pub is_rough : Lcg → ℕ → Bool
is_rough draws per_mille = nat_lt ((pcg32 draws).0 % 1000) per_mille

abbrev pub drawn_act : Lcg → ℕ → Act
drawn_act draws per_mille = if is_rough draws per_mille then picked (pcg32 (pcg32 draws).1).0 else Give

abbrev pub draws_left : Lcg → ℕ → Lcg
draws_left draws per_mille = if is_rough draws per_mille then (pcg32 (pcg32 draws).1).1 else (pcg32 draws).1

-- the first act left, where a `next` takes it
abbrev pub next_of : List Act → Act
next_of [] = Give
next_of (Give ∷ acts) = Give
next_of (Lose ∷ acts) = Lose
next_of (Repeat ∷ acts) = Repeat
next_of (Late i ∷ acts) = Late i
next_of (Stale i ∷ acts) = Stale i
next_of (FailSend ∷ acts) = Give
next_of (FailNext ∷ acts) = FailNext

-- what a `next` leaves of the acts
abbrev pub next_left : List Act → List Act
next_left [] = []
next_left (Give ∷ acts) = acts
next_left (Lose ∷ acts) = acts
next_left (Repeat ∷ acts) = acts
next_left (Late i ∷ acts) = acts
next_left (Stale i ∷ acts) = acts
next_left (FailSend ∷ acts) = FailSend ∷ acts
next_left (FailNext ∷ acts) = acts

-- copies of that number are still to be lost, and the first that is flying is one
abbrev pub is_dropped : ℕ → ℕ → List (List ℕ) → Bool
is_dropped seq left flying = nat_lt 0 left && is_data_first seq flying

-- the act that a `next` takes
abbrev pub act_now : Script → List (List ℕ) → Act
act_now (Acts acts) flying = next_of acts
act_now (Dropping seq left) flying = if is_dropped seq left flying then Lose else Give
act_now (Drawn draws per_mille) flying = drawn_act draws per_mille

-- what it leaves of the script
abbrev pub script_left : Script → List (List ℕ) → Script
script_left (Acts acts) flying = Acts (next_left acts)
script_left (Dropping seq left) flying = if is_dropped seq left flying then Dropping seq (left - 1) else Dropping seq left
script_left (Drawn draws per_mille) flying = Drawn (draws_left draws per_mille) per_mille

-- the first act left is a failing send
abbrev pub fails_first : List Act → Bool
fails_first [] = false
fails_first (Give ∷ acts) = false
fails_first (Lose ∷ acts) = false
fails_first (Repeat ∷ acts) = false
fails_first (Late i ∷ acts) = false
fails_first (Stale i ∷ acts) = false
fails_first (FailSend ∷ acts) = true
fails_first (FailNext ∷ acts) = false

-- the next `send` fails
abbrev pub fails_now : Script → Bool
fails_now (Acts acts) = fails_first acts
fails_now (Dropping seq left) = false
fails_now (Drawn draws per_mille) = false

-- a `send` takes it
abbrev pub if_failing : List Act → List Act
if_failing acts = if fails_first acts then drop 1 acts else acts

-- what a `send` leaves of the script
abbrev pub send_left : Script → Script
send_left (Acts acts) = Acts (if_failing acts)
send_left (Dropping seq left) = Dropping seq left
send_left (Drawn draws per_mille) = Drawn draws per_mille

-- a trouble more, a datagram given, a call failed
abbrev pub troubled : SimState → SimState
troubled s = record s { troubles = raised s.troubles 1 }

abbrev pub has_given : SimState → SimState
has_given s = record s { given = raised s.given 1 }

abbrev pub has_failed : SimState → SimState
has_failed s = record s { troubles = raised s.troubles 1; faults = raised s.faults 1 }

-- a place, or the last one
abbrev pub place_in : {A : Type 0} → ℕ → List A → ℕ
place_in i xs = min i (length xs - 1)

-- the datagram that an act gives
abbrev pub gave : Act → SimState → Option (List ℕ)
gave Give s = slice_get s.flying 0
gave Lose s = None
gave Repeat s = slice_get s.flying 0
gave (Late i) s = slice_get s.flying (place_in i s.flying)
gave (Stale i) s = slice_get s.sent (place_in i s.sent)
gave FailSend s = None
gave FailNext s = None

-- one was given, or it was quiet
abbrev pub counted : Option (List ℕ) → SimState → SimState
counted None s = s
counted (Some x) s = has_given s

-- Give alone is a trouble only where nothing is flying
abbrev pub gave_first : List (List ℕ) → SimState → SimState
gave_first [] s = troubled s
gave_first (x ∷ xs) s = record (has_given s) { flying = xs }

-- what an act leaves
abbrev pub acted : Act → SimState → SimState
acted Give s = gave_first s.flying s
acted Lose s = troubled (record s { flying = drop 1 s.flying })
acted Repeat s = troubled (counted (gave Repeat s) s)
acted (Late i) s = troubled (counted (gave (Late i) s) (record s { flying = remove s.flying (place_in i s.flying) }))
acted (Stale i) s = troubled (counted (gave (Stale i) s) s)
acted FailSend s = has_failed s
acted FailNext s = has_failed s

-- an act that fails
abbrev pub is_failing : Act → Bool
is_failing Give = false
is_failing Lose = false
is_failing Repeat = false
is_failing (Late i) = false
is_failing (Stale i) = false
is_failing FailSend = true
is_failing FailNext = true

-- the call gave what the act gives, and left what it leaves
abbrev pub HasActed : Act → SimState → Result Got Failed → List ℕ → SimState → Type 0
HasActed act s (Err e) into new = (is_failing act ≡ true) × (new ≡ acted act s)
HasActed act s (Ok Quiet) into new = (is_failing act ≡ false) × (gave act s ≡ None) × (new ≡ acted act s)
HasActed act s (Ok (Bytes n)) into new = (is_failing act ≡ false) × (gave act s ≡ Some (take n into)) × (new ≡ acted act s) × (n ≤ 1224)

-- a `next` has taken its act
abbrev pub turned : SimState → SimState
turned s = record s { script = script_left s.script s.flying }

-- a datagram more was sent
abbrev pub has_sent : SimState → List ℕ → SimState
has_sent s bytes = record s { sent = s.sent ++ bytes ∷ []; flying = s.flying ++ bytes ∷ [] }

-- a `send` fails where the script says so, else it sends; for want of memory nothing changes
abbrev pub HasSent : SimState → List ℕ → Result Unit LinkFault → SimState → Type 0
HasSent s bytes (Ok done) new = (fails_now s.script ≡ false) × (new ≡ has_sent s bytes)
HasSent s bytes (Err fault.Failed) new = (fails_now s.script ≡ true) × (new ≡ has_failed (record s { script = send_left s.script }))
HasSent s bytes (Err fault.NoMemory) new = (fails_now s.script ≡ false) × (new ≡ s)

-- the one at that place is in the buffer
abbrev pub ShowsAt : List (List ℕ) → ℕ → Option ℕ → List ℕ → Type 0
ShowsAt xs place None into = slice_get xs place ≡ None
ShowsAt xs place (Some n) into = (slice_get xs place ≡ Some (take n into)) × (n ≤ 1224)

-- and it is no longer flying
abbrev pub TakesOut : SimState → ℕ → Option ℕ → List ℕ → SimState → Type 0
TakesOut s place None into new = (slice_get s.flying place ≡ None) × (new ≡ s)
TakesOut s place (Some n) into new = (slice_get s.flying place ≡ Some (take n into)) × (n ≤ 1224) × (new ≡ record s { flying = remove s.flying place })

-- each is one of those that were sent
abbrev pub AreSent : List (List ℕ) → List (List ℕ) → Type 0
AreSent [] sent = Unit {0}
AreSent (x ∷ xs) sent = IsIn x sent × AreSent xs sent

-- no act left fails
abbrev pub all_work : List Act → Bool
all_work [] = true
all_work (Give ∷ acts) = all_work acts
all_work (Lose ∷ acts) = all_work acts
all_work (Repeat ∷ acts) = all_work acts
all_work (Late i ∷ acts) = all_work acts
all_work (Stale i ∷ acts) = all_work acts
all_work (FailSend ∷ acts) = false
all_work (FailNext ∷ acts) = false

-- no later call fails
abbrev pub is_sound : Script → Bool
is_sound (Acts acts) = all_work acts
is_sound (Dropping seq left) = true
is_sound (Drawn draws per_mille) = true

-- how many later troubles there are at most, where that is known
abbrev pub roughness : Script → Option ℕ
roughness (Acts acts) = if all_work acts then Some (length acts) else None
roughness (Dropping seq left) = Some left
roughness (Drawn draws per_mille) = if per_mille == 0 then Some 0 else None

-- all that was ever sent can still arrive
abbrev pub state_of : SimState → LinkState
state_of s = record {
  may = Some s.sent;
  flying = Some s.flying;
  acks = acks_in s.flying;
  others = others_in s.flying;
  troubles = s.troubles;
  given = s.given;
  faults = s.faults;
  sound = is_sound s.script;
  rough = roughness s.script;
}
