-- What a session may ask, by the history of the catalogue. `files` and `seals` say whether these tell their bytes.
--     MayAsk files seals k history nodes ask     session k may ask this of a catalogue of so many nodes
use Rattle.std.specs.Prelude.{◌≡◌, ◌≢◌, ◌⊎◌, ℕ, ◌<◌, ◌≤◌, ◌&&◌, Bool, false, List, [], length, map, IsTrue, nat_eq, slice_index_or}
use Rattle.std.specs.List.{All, list_any}
use Rattle.hq_value.specs.Tables.{are_distinct}
use Rattle.hq_log.specs.declared.place.Place.TheVariants.{Out}
use Rattle.hq_log.specs.Places.{is_out_to, is_swept_by}
use Rattle.hq_log.specs.Pools.{pool}
use Rattle.hq_log.specs.Legal.{IsAt, HasNoLane}
use Rattle.hq_lane.specs.Lanes.{LaneState, file_of, AreClean, AreSealed, HaveNoSeal}
use Rattle.hq_lane.specs.BucketFiles.{own_bytes}
use Rattle.hq_history.specs.declared.noted.Noted.{Noted}
use Rattle.hq_history.specs.History.{entries_of}
use Rattle.hq_history.specs.Deposits.{tables_left}
use Rattle.hq_snap.specs.declared.scope.Have.{Have}
use Rattle.hq_catalog.specs.declared.ask.Ask.{Ask}
use Rattle.hq_catalog.specs.declared.ask.Ask.TheVariants as ask
use Rattle.hq_catalog.specs.Files.{def_at, FitBytes}
use Rattle.hq_catalog.specs.Lanes.{IsOut, IsSwept, IsHeld, Agrees}

-- no table is named twice, and none as it was at a place that the log hasn't reached
pub record MayLook (history : List Noted) (have : List Have) : Type 0 where
  pub once : IsTrue (are_distinct nat_eq (map (λ (h : Have). h.table) have))
  pub reached : All (λ (h : Have). h.at ≤ length history) have

-- the table is made, and the session has no lane of it
pub record MayLend (k : ℕ) (history : List Noted) (t : ℕ) : Type 0 where
  pub made : t < length (tables_left history)
  pub no_lane : HasNoLane (entries_of history) k t

-- the session is sweeping the lane, which is clean, and has no lane of its table to write
pub record MayAdopt (told : Bool) (k : ℕ) (history : List Noted) (l : LaneState) : Type 0 where
  pub swept : IsSwept (entries_of history) k l
  pub none_out : list_any (is_out_to k) (pool (entries_of history) l.table) ≡ false
  pub agrees : Agrees told history l
  pub clean : AreClean l.files
  pub no_seal : HaveNoSeal l.files

-- the session has the lane, to write or to sweep
pub record MayBack (told : Bool) (k : ℕ) (history : List Noted) (l : LaneState) : Type 0 where
  pub held : IsHeld (entries_of history) k l
  pub agrees : Agrees told history l
  pub no_seal : HaveNoSeal l.files

-- the session has the lane to write, it is sealed, and what it adds to each file are blocks of the table's first columns
-- whose rows stand in their bucket
pub record MayCommitOne (files seals : Bool) (k : ℕ) (history : List Noted) (l : LaneState) : Type 0 where
  pub made : l.table < length (tables_left history)
  pub out : IsOut (entries_of history) k l
  pub agrees : Agrees (files && seals) history l
  pub sealed : AreSealed files seals l.files
  pub blocks : IsTrue files → (b : ℕ) → b < 16 → FitBytes (def_at history l.table) b (own_bytes (file_of l.files b))

abbrev pub no_lane : LaneState
no_lane = record { table = 0; number = 0; files = [] }

abbrev pub lane_at : List LaneState → ℕ → LaneState
lane_at lanes i = slice_index_or lanes i no_lane

-- one of these is lane n of table t
abbrev pub HasLane : List LaneState → ℕ → ℕ → Type 0
HasLane lanes t n = (i : ℕ) × (i < length lanes) × ((lane_at lanes i).table ≡ t) × ((lane_at lanes i).number ≡ n)

-- these are all lanes that the session has to write, each once and at least one, and it is sweeping none
pub record MayCommit (files seals : Bool) (k : ℕ) (history : List Noted) (lanes : List LaneState) : Type 0 where
  pub some : 0 < length lanes
  pub each : (i : ℕ) → i < length lanes → MayCommitOne files seals k history (lane_at lanes i)
  pub once : (i j : ℕ) → i < j → j < length lanes → ((lane_at lanes i).table ≢ (lane_at lanes j).table) ⊎ ((lane_at lanes i).number ≢ (lane_at lanes j).number)
  pub all : (t n : ℕ) → IsAt (entries_of history) t n (Out k) → HasLane lanes t n
  pub none_swept : (t : ℕ) → list_any (is_swept_by k) (pool (entries_of history) t) ≡ false

-- session k may ask this of a catalogue with this history and so many nodes
abbrev pub MayAsk : {F Z : Type 0} → Bool → Bool → ℕ → Ask F Z → List Noted → ℕ → Type 0
MayAsk files seals k (ask.Look scope have) history nodes = MayLook history have.items
MayAsk files seals k (ask.Create def) history nodes = Unit {0}
MayAsk files seals k (ask.Alter table column) history nodes = Unit {0}
MayAsk files seals k (ask.Lend t) history nodes = MayLend k history t
MayAsk files seals k (ask.Adopt l) history nodes = MayAdopt (files && seals) k history l
MayAsk files seals k (ask.Commit lanes) history nodes = MayCommit files seals k history lanes.items
MayAsk files seals k (ask.Back l) history nodes = MayBack (files && seals) k history l
MayAsk files seals k ask.SweepAny history nodes = Unit {0}
MayAsk files seals k (ask.Mark node up) history nodes = node < nodes
