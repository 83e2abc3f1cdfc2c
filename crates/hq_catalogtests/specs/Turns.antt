-- What a session has, by the history of the catalogue, and what an answer does to it. Files and seals tell nothing here.
--     Keeps k old new                 session k has the same lanes, and their files are as long as they were
--     HasSealed k history lanes       session k has these lanes to write, and they are sealed
--     HasJust k history lanes place l it has lane l at this place beside these lanes, and no other
--     HasNoOther k history lanes      it has no lane but these
--     HasBeside k history lanes held  it has what is held beside these lanes, and nothing else
--     Has k history hand              it has what is in the hand, and nothing else
--     AreEmpty hands                  nobody has a lane
--     IsReady held                    the files of what is held may be written, or cut
--     IsSameLane old new              the same lane, of which no committed length changes
--     GetsNoSeal old new              no file of the lane gets a seal
--     StaysHeld old new               whoever has what is held before has what is held behind it
--     Stays old new                   the same of all that is in the hand
--     has_table lanes t               one of the lanes is of table t
--     are_below lanes tables          the lanes are of the first tables, of which there are so many
--     held_of answer                  what an answer hands out
--     OthersKeep k old new            the others have what they had
--     HasTurned k old new hand        session k has what is in the hand now, and the others keep what they have
--     HasMade history answer          a table that is answered to be made is there
--     IsMadeIn history said           a table that is said to be made is there
--     SaysMade answer said            what is said to be made was made
--     IsReached history have          the history has reached the place
--     listed have                     a table that is had, as a list
--     IsStill ask                     it takes no lane and gives none
--     IsWorld history hands tables    each session has what is in its hand, and so many tables are made
use Rattle.std.specs.Prelude.{◌≡◌, ◌≢◌, ◌⊎◌, ℕ, ◌<◌, ◌≤◌, ◌==◌, Bool, true, false, List, [], ◌∷◌, Option, Some, None, length, nat_lt, slice_get}
use Rattle.std.specs.List.{list_all, list_any}
use Rattle.hq_log.specs.declared.place.Place.{Place}
use Rattle.hq_log.specs.declared.place.Place.TheVariants.{Out, Sweeping}
use Rattle.hq_log.specs.Places.{is_held_by}
use Rattle.hq_log.specs.Legal.{IsAt}
use Rattle.hq_lane.specs.Lanes.{LaneState, id_of, file_of, AreWhole, AreSealed, HaveNoSeal}
use Rattle.hq_history.specs.declared.noted.Noted.{Noted}
use Rattle.hq_history.specs.History.{entries_of}
use Rattle.hq_history.specs.Deposits.{tables_left, length_left}
use Rattle.hq_snap.specs.declared.scope.Have.{Have}
use Rattle.hq_catalog.specs.declared.ask.Answer.{Answer}
use Rattle.hq_catalog.specs.declared.ask.Answer.TheVariants as answer
use Rattle.hq_catalog.specs.declared.ask.Ask.{Ask}
use Rattle.hq_catalog.specs.declared.ask.Ask.TheVariants as ask
use Rattle.hq_catalog.specs.Asks.{HasLane, lane_at}
use Rattle.hq_catalog.specs.Lanes.{Agrees}
use Rattle.hq_catalogtests.specs.declared.hand.Hand.{Hand}
use Rattle.hq_catalogtests.specs.declared.hand.Held.{Held}
use Rattle.hq_catalogtests.specs.declared.hand.Held.TheVariants as held
use Rattle.hq_catalogtests.specs.declared.turns.Said.{Said}
use Rattle.hq_catalogtests.specs.declared.turns.Said.TheVariants as said

-- session k has the lanes that it had at their places and no others, and their files are as long as they were
pub record Keeps (k : ℕ) (old new : List Noted) : Type 0 where
  pub there : (t n : ℕ) (p : Place) → is_held_by k p ≡ true → IsAt (entries_of old) t n p → IsAt (entries_of new) t n p
  pub only : (t n : ℕ) (p : Place) → is_held_by k p ≡ true → IsAt (entries_of new) t n p → IsAt (entries_of old) t n p
  pub lengths : (t n : ℕ) (p : Place) → is_held_by k p ≡ true → IsAt (entries_of old) t n p → (b : ℕ) → length_left new (id_of t n b) ≡ length_left old (id_of t n b)

-- session k has these lanes to write, each once; they are sealed, and agree with the history
pub record HasSealed (k : ℕ) (history : List Noted) (lanes : List LaneState) : Type 0 where
  pub at : (i : ℕ) → i < length lanes → IsAt (entries_of history) (lane_at lanes i).table (lane_at lanes i).number (Out k)
  pub agrees : (i : ℕ) → i < length lanes → Agrees false history (lane_at lanes i)
  pub sealed : (i : ℕ) → i < length lanes → AreSealed false false (lane_at lanes i).files
  pub once : (i j : ℕ) → i < j → j < length lanes → ((lane_at lanes i).table ≢ (lane_at lanes j).table) ⊎ ((lane_at lanes i).number ≢ (lane_at lanes j).number)

-- session k has no lane but these
abbrev pub HasNoOther : ℕ → List Noted → List LaneState → Type 0
HasNoOther k history lanes = (t n : ℕ) (p : Place) → is_held_by k p ≡ true → IsAt (entries_of history) t n p → HasLane lanes t n

-- session k has lane l at this place beside these lanes, and no other, and it agrees with the history
pub record HasJust (k : ℕ) (history : List Noted) (lanes : List LaneState) (place : Place) (l : LaneState) : Type 0 where
  pub at : IsAt (entries_of history) l.table l.number place
  pub beside : HasLane lanes l.table l.number → ⊥
  pub only : (t n : ℕ) (p : Place) → is_held_by k p ≡ true → IsAt (entries_of history) t n p → ((t ≡ l.table) × (n ≡ l.number)) ⊎ HasLane lanes t n
  pub agrees : Agrees false history l

-- session k has what is held beside these lanes, and nothing else
abbrev pub HasBeside : ℕ → List Noted → List LaneState → Held → Type 0
HasBeside k history lanes held.Nothing = HasNoOther k history lanes
HasBeside k history lanes (held.Writes l) = HasJust k history lanes (Out k) l × HaveNoSeal l.files × AreWhole l.files
HasBeside k history lanes (held.Torn l) = HasJust k history lanes (Out k) l × HaveNoSeal l.files
HasBeside k history lanes (held.Sweeps l) = HasJust k history lanes (Sweeping k) l × HaveNoSeal l.files

-- session k has what is in the hand, and nothing else
pub record Has (k : ℕ) (history : List Noted) (hand : Hand) : Type 0 where
  pub sealed : HasSealed k history hand.sealed.items
  pub held : HasBeside k history hand.sealed.items hand.held

-- nobody has a lane
abbrev pub AreEmpty : List Hand → Type 0
AreEmpty hands = (k : ℕ) (hand : Hand) → slice_get hands k ≡ Some hand → (hand.sealed.items ≡ []) × (hand.held ≡ held.Nothing)

-- the files of what is held may be written, or cut
abbrev pub IsReady : Held → Type 0
IsReady held.Nothing = Unit {0}
IsReady (held.Writes l) = AreWhole l.files
IsReady (held.Torn l) = Unit {0}
IsReady (held.Sweeps l) = HaveNoSeal l.files

-- the same lane, of which no committed length changes
pub record IsSameLane (old new : LaneState) : Type 0 where
  pub table : new.table ≡ old.table
  pub number : new.number ≡ old.number
  pub base : (b : ℕ) → b < 16 → (file_of new.files b).base ≡ (file_of old.files b).base

-- no file gets a seal
abbrev pub GetsNoSeal : LaneState → LaneState → Type 0
GetsNoSeal old new = (b : ℕ) → b < 16 → (file_of new.files b).fresh ≡ (file_of old.files b).fresh

-- whoever has what is held before has what is held behind it
abbrev pub StaysHeld : Held → Held → Type 0
StaysHeld old new = (k : ℕ) (history : List Noted) (lanes : List LaneState) → HasBeside k history lanes old → HasBeside k history lanes new

-- the same of all that is in the hand
abbrev pub Stays : Hand → Hand → Type 0
Stays old new = (k : ℕ) (history : List Noted) → Has k history old → Has k history new

-- one of the lanes is of table t
abbrev pub has_table : List LaneState → ℕ → Bool
has_table lanes t = list_any (λ (l : LaneState). l.table == t) lanes

-- the lanes are of the first tables, of which there are so many
abbrev pub are_below : List LaneState → ℕ → Bool
are_below lanes tables = list_all (λ (l : LaneState). nat_lt l.table tables) lanes

-- what an answer hands out
abbrev pub held_of : {F Z : Type 0} → Answer F Z → Held
held_of (answer.Clean l) = held.Writes l
held_of (answer.Fresh l) = held.Writes l
held_of (answer.Adopted l) = held.Writes l
held_of (answer.Sweep l) = held.Sweeps l
held_of _ = held.Nothing

-- the other sessions keep what they have, and no table is gone
pub record OthersKeep (k : ℕ) (old new : List Noted) : Type 0 where
  pub others : (j : ℕ) → j ≢ k → Keeps j old new
  pub tables : length (tables_left old) ≤ length (tables_left new)

-- session k has what is in the hand now, and the others keep what they have
pub record HasTurned (k : ℕ) (old new : List Noted) (hand : Hand) : Type 0 where
  pub keep : OthersKeep k old new
  pub has : Has k new hand

-- a table that is answered to be made is there
abbrev pub HasMade : {F Z : Type 0} → List Noted → Answer F Z → Type 0
HasMade history (answer.Made t) = t < length (tables_left history)
HasMade history _ = Unit {0}

-- a table that is said to be made is there
abbrev pub IsMadeIn : List Noted → Said → Type 0
IsMadeIn history (said.Made t) = t < length (tables_left history)
IsMadeIn history _ = Unit {0}

-- what is said to be made was made
abbrev pub SaysMade : {F Z : Type 0} → Answer F Z → Said → Type 0
SaysMade {F} {Z} r x = (history : List Noted) → HasMade {F = F} {Z = Z} history r → IsMadeIn history x

-- the history has reached the place
abbrev pub IsReached : List Noted → Option Have → Type 0
IsReached history None = Unit {0}
IsReached history (Some h) = h.at ≤ length history

-- a table that is had, as a list
abbrev pub listed : Option Have → List Have
listed None = []
listed (Some h) = h ∷ []

-- what takes no lane and gives none
abbrev pub IsStill : {F Z : Type 0} → Ask F Z → Type 0
IsStill (ask.Look scope have) = Unit {0}
IsStill (ask.Create def) = Unit {0}
IsStill (ask.Alter table column) = Unit {0}
IsStill (ask.Mark node up) = Unit {0}
IsStill _ = ⊥

-- each session has what is in its hand, and so many tables are made
pub record IsWorld (history : List Noted) (hands : List Hand) (tables : ℕ) : Type 0 where
  pub has : (k : ℕ) (hand : Hand) → slice_get hands k ≡ Some hand → Has k history hand
  pub made : tables ≤ length (tables_left history)
