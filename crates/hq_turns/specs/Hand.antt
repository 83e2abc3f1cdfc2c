-- The lanes that a session has, against the history that it was shown.
--     InHand files seals k history lanes   these are just the lanes that session k has to write, of different tables, each with its
--                                     committed bytes and then blocks of its table, and it sweeps none
--     outstanding ask lanes           these and the ones in the ask
--     IsLawful .. history ask lanes   the ask is one that the session may ask, and with the ones in it these are the session's lanes
use Rattle.std.specs.Prelude.{◌≡◌, ℕ, ◌<◌, Bool, false, List, ◌∷◌, ◌++◌, length, ◌&&◌, IsTrue}
use Rattle.std.specs.List.{list_any}
use Rattle.hq_log.specs.declared.place.Place.TheVariants.{Out}
use Rattle.hq_log.specs.Places.{is_swept_by}
use Rattle.hq_log.specs.Pools.{pool}
use Rattle.hq_log.specs.Legal.{IsAt}
use Rattle.hq_lane.specs.BucketFiles.{own_bytes}
use Rattle.hq_lane.specs.Lanes.{LaneState, file_of}
use Rattle.hq_history.specs.declared.noted.Noted.{Noted}
use Rattle.hq_history.specs.History.{entries_of}
use Rattle.hq_history.specs.Deposits.{tables_left}
use Rattle.hq_catalog.specs.declared.ask.Ask.{Ask}
use Rattle.hq_catalog.specs.declared.ask.Ask.TheVariants as ask
use Rattle.hq_catalog.specs.Files.{def_at, FitBytes}
use Rattle.hq_catalog.specs.Lanes.{IsOut, Agrees}
use Rattle.hq_catalog.specs.Asks.{lane_at, HasLane, MayAsk}

-- just the lanes that session k has to write, of different tables, each with its committed bytes and behind them blocks of its table's
-- first columns whose rows stand in their bucket, and it sweeps none
pub record InHand (files seals : Bool) (k : ℕ) (history : List Noted) (lanes : List LaneState) : Type 0 where
  pub out : (i : ℕ) → i < length lanes → IsOut (entries_of history) k (lane_at lanes i)
  pub made : (i : ℕ) → i < length lanes → (lane_at lanes i).table < length (tables_left history)
  pub agrees : (i : ℕ) → i < length lanes → Agrees (files && seals) history (lane_at lanes i)
  pub fit : (i : ℕ) → i < length lanes → IsTrue files → (b : ℕ) → b < 16 → FitBytes (def_at history (lane_at lanes i).table) b (own_bytes (file_of (lane_at lanes i).files b))
  pub apart : (i j : ℕ) → i < length lanes → j < length lanes → (lane_at lanes i).table ≡ (lane_at lanes j).table → i ≡ j
  pub all : (t n : ℕ) → IsAt (entries_of history) t n (Out k) → HasLane lanes t n
  pub none_swept : (t : ℕ) → list_any (is_swept_by k) (pool (entries_of history) t) ≡ false

-- these lanes and the ones in the ask
abbrev pub outstanding : {F Z : Type 0} → Ask F Z → List LaneState → List LaneState
outstanding (ask.Back lane) lanes = lane ∷ lanes
outstanding (ask.Commit given) lanes = given.items ++ lanes
outstanding _ lanes = lanes

-- the session may ask this, and these lanes with the ones in the ask are those that it has
pub record IsLawful {F Z : Type 0} (files seals : Bool) (nodes k : ℕ) (history : List Noted) (a : Ask F Z) (lanes : List LaneState) : Type 0 where
  pub may : MayAsk files seals k a history nodes
  pub hand : InHand files seals k history (outstanding a lanes)
