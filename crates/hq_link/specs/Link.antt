-- A link as contracts see it, and what each call leaves of it.
--     LinkState                       what can still arrive and what is flying, where that is told, the counts, and
--                                     what the link promises
--     IsLawful s                      the counts of flying datagrams are right, and what is promised is told
--     IsSent old bytes result new     what `send` leaves
--     IsNext old result into new      what `next` leaves
--     IsIn x xs                       x is a member
use Rattle.std.specs.Prelude.{◌≡◌, ◌⊎◌, ℕ, ◌+◌, ◌-◌, ◌^◌, ◌<◌, ◌≤◌, min, Bool, true, false, List, [], ◌∷◌, ◌++◌, length, take, Option, Some, None, Result, Ok, Err, OnOk, OnErr, option_map, ◌==◌}
use Rattle.hq_value.specs.Causes.{Rose, raised}
use Rattle.hq_value.specs.declared.fault.Failed.{Failed}
use Rattle.hq_link.specs.declared.link.Got.{Got}
use Rattle.hq_link.specs.declared.link.Got.TheVariants.{Bytes, Quiet}
use Rattle.hq_link.specs.declared.link.LinkFault.{LinkFault}
use Rattle.hq_link.specs.declared.link.LinkFault.TheVariants as fault

-- datagrams, where they are told
abbrev pub Told : Type 0
Told = Option (List (List ℕ))

-- `may` is what can still arrive, `flying` what does in order of sending, where these are told. `acks` and `others`
-- are how many Acks and how many other datagrams are flying. A `sound` link promises that no call fails. It may tell
-- `rough`, how many later calls of `next` at most raise `troubles`, but for a Quiet with nothing flying.
pub record LinkState : Type 0 where
  pub may : Told
  pub flying : Told
  pub acks : ℕ
  pub others : ℕ
  pub troubles : ℕ
  pub given : ℕ
  pub faults : ℕ
  pub sound : Bool
  pub rough : Option ℕ

-- the datagram is one of these
abbrev pub IsIn : List ℕ → List (List ℕ) → Type 0
IsIn x [] = ⊥
IsIn x (y ∷ ys) = (y ≡ x) ⊎ IsIn x ys

-- an Ack begins with 3
abbrev pub is_ack : List ℕ → Bool
is_ack [] = false
is_ack (b ∷ bytes) = b == 3

-- 1 where it holds, else 0
abbrev pub one_if : Bool → ℕ
one_if true = 1
one_if false = 0

-- how many Acks a datagram is
abbrev pub ack_count : List ℕ → ℕ
ack_count bytes = one_if (is_ack bytes)

-- how many other datagrams it is
abbrev pub other_count : List ℕ → ℕ
other_count bytes = 1 - one_if (is_ack bytes)

-- how many of these are Acks
abbrev pub acks_in : List (List ℕ) → ℕ
acks_in [] = 0
acks_in (x ∷ xs) = ack_count x + acks_in xs

-- how many of these are others
abbrev pub others_in : List (List ℕ) → ℕ
others_in [] = 0
others_in (x ∷ xs) = other_count x + others_in xs

-- the numbers of both sorts are those of what is flying
abbrev pub AreCounted : Told → ℕ → ℕ → Type 0
AreCounted None acks others = Unit {0}
AreCounted (Some xs) acks others = (acks ≡ acks_in xs) × (others ≡ others_in xs)

-- the datagrams are told
abbrev pub AreTold : Told → Type 0
AreTold None = ⊥
AreTold (Some xs) = Unit {0}

-- how rough the link is is told only by a sound link that tells what it carries
abbrev pub IsToldOf : Option ℕ → LinkState → Type 0
IsToldOf None s = Unit {0}
IsToldOf (Some rough) s = (s.sound ≡ true) × AreTold s.may × AreTold s.flying

-- what holds of each link at any time
pub record IsLawful (s : LinkState) : Type 0 where
  pub counted : AreCounted s.flying s.acks s.others
  pub told : IsToldOf s.rough s

-- one datagram more at the end
abbrev pub added : Told → List ℕ → Told
added told bytes = option_map (λ ds. ds ++ bytes ∷ []) told

-- what is told stays told, and no member is new
abbrev pub IsLess : Told → Told → Type 0
IsLess None None = Unit {0}
IsLess (Some old) (Some new) = (x : List ℕ) → IsIn x new → IsIn x old
IsLess None (Some new) = ⊥
IsLess (Some old) None = ⊥

-- what is left where members were taken out
abbrev pub IsThinned : List (List ℕ) → List (List ℕ) → Type 0
IsThinned old [] = Unit {0}
IsThinned [] (y ∷ new) = ⊥
IsThinned (x ∷ old) (y ∷ new) = ((x ≡ y) × IsThinned old new) ⊎ IsThinned old (y ∷ new)

-- the same of told ones, which stay told
abbrev pub AreThinned : Told → Told → Type 0
AreThinned None None = Unit {0}
AreThinned (Some old) (Some new) = IsThinned old new
AreThinned None (Some new) = ⊥
AreThinned (Some old) None = ⊥

-- it is told to be there
abbrev pub MayCome : Told → List ℕ → Type 0
MayCome None x = Unit {0}
MayCome (Some ds) x = IsIn x ds

-- the datagram was the first one flying, where that is told, and isn't any longer
abbrev pub IsHead : Told → List ℕ → Told → Type 0
IsHead None x new = new ≡ None
IsHead (Some []) x new = ⊥
IsHead (Some (y ∷ ys)) x new = (y ≡ x) × (new ≡ Some ys)

-- a promise stays told and never grows
abbrev pub IsLowered : Option ℕ → Option ℕ → Type 0
IsLowered None new = Unit {0}
IsLowered (Some r) None = ⊥
IsLowered (Some r) (Some s) = s ≤ r

-- and it has fallen
abbrev pub HasFallen : Option ℕ → Option ℕ → Type 0
HasFallen None new = Unit {0}
HasFallen (Some r) None = ⊥
HasFallen (Some r) (Some s) = s < r

-- a promise of how rough the link is speaks of this
abbrev pub WhereTold : Option ℕ → Type 0 → Type 0
WhereTold None P = Unit {0}
WhereTold (Some r) P = P

-- a call of a sound link, which did not fail
pub record StaysSound (old new : LinkState) : Type 0 where
  pub faults : new.faults ≡ old.faults
  pub sound : new.sound ≡ true

-- where one was refused, nothing else was sent
pub record IsUnsent (old new : LinkState) : Type 0 where
  pub may : new.may ≡ old.may
  pub flying : new.flying ≡ old.flying
  pub acks : new.acks ≡ old.acks
  pub others : new.others ≡ old.others

-- the datagram can arrive, and is flying behind the others
pub record IsOnItsWay (old : LinkState) (bytes : List ℕ) (new : LinkState) : Type 0 where
  pub may : new.may ≡ added old.may bytes
  pub flying : new.flying ≡ added old.flying bytes
  pub acks : new.acks ≡ old.acks + ack_count bytes
  pub others : new.others ≡ old.others + other_count bytes

pub record IsSent (old : LinkState) (bytes : List ℕ) (result : Result Unit LinkFault) (new : LinkState) : Type 0 where
  pub sent : OnOk result (IsOnItsWay old bytes new)
  pub refused : OnErr result (IsUnsent old new)
  pub troubles : old.troubles ≤ new.troubles
  pub given : new.given ≡ old.given
  pub faults : old.faults ≤ new.faults
  pub failed : result ≡ Err fault.Failed → Rose old.faults new.faults
  pub sound : old.sound ≡ true → StaysSound old new
  pub works : old.sound ≡ true → result ≡ Err fault.Failed → ⊥
  pub rough : IsLowered old.rough new.rough
  pub smooth : WhereTold old.rough (new.troubles ≡ old.troubles)

-- the datagram came in its turn, and lowers the count of its sort
pub record IsInTurn (old : LinkState) (bytes : List ℕ) (new : LinkState) : Type 0 where
  pub head : IsHead old.flying bytes new.flying
  pub acks : new.acks + ack_count bytes ≡ old.acks
  pub others : new.others + other_count bytes ≡ old.others

-- a datagram, which is one that can arrive; it came in its turn, or that was a trouble
pub record HasCome (old : LinkState) (bytes : List ℕ) (new : LinkState) : Type 0 where
  pub may : MayCome old.may bytes
  pub turn : IsInTurn old bytes new ⊎ Rose old.troubles new.troubles
  pub given : new.given ≡ raised old.given 1

-- what came: a datagram of at most 1,224 bytes; or nothing, which is a trouble; or the call failed
abbrev pub Came : LinkState → Result Got Failed → List ℕ → LinkState → Type 0
Came old (Err e) into new =
    Rose old.faults new.faults × (new.given ≡ old.given) × ((new.flying ≡ old.flying) ⊎ Rose old.troubles new.troubles)
Came old (Ok Quiet) into new = Rose old.troubles new.troubles × (new.given ≡ old.given)
Came old (Ok (Bytes n)) into new = (n ≤ 1224) × HasCome old (take n into) new

-- a trouble lowers the promise, but for a Quiet with nothing flying; else the head came, with no trouble
abbrev pub KeepsPromise : LinkState → Result Got Failed → List ℕ → LinkState → Type 0
KeepsPromise old (Err e) into new = ⊥
KeepsPromise old (Ok Quiet) into new = (old.flying ≡ Some []) ⊎ HasFallen old.rough new.rough
KeepsPromise old (Ok (Bytes n)) into new =
    (IsInTurn old (take n into) new × (new.troubles ≡ old.troubles)) ⊎ HasFallen old.rough new.rough

pub record IsNext (old : LinkState) (result : Result Got Failed) (into : List ℕ) (new : LinkState) : Type 0 where
  pub came : Came old result into new
  pub may : IsLess old.may new.may
  pub flying : AreThinned old.flying new.flying
  pub acks : new.acks ≤ old.acks
  pub others : new.others ≤ old.others
  pub troubles : old.troubles ≤ new.troubles
  pub faults : old.faults ≤ new.faults
  pub sound : old.sound ≡ true → StaysSound old new
  pub works : old.sound ≡ true → OnErr result ⊥
  pub rough : IsLowered old.rough new.rough
  pub one : WhereTold old.rough (new.troubles ≤ old.troubles + 1)
  pub promise : WhereTold old.rough (KeepsPromise old result into new)
