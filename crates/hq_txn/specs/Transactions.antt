-- A transaction: its state, and the lanes that it has in hand.
--     Transaction                      its state, its lanes in the order in which they were lent, and the room for more
--     lane_at lanes n                  the lane at a place
--     has_lane lanes table             one of the lanes is of the table
--     place_of lanes table             the place of the first that is, and lane_of lanes table the lane there
--     with_lane lanes table lane       the lanes with this one at that place
--     IsTransaction state lanes        what holds of every transaction
--     IsPrepared told seal_told old new    a lane is sealed, and none of its bytes changed
--     IsSealedFrom told seal_told old new  a flushed lane is sealed
--     IsUnsealed told old new          a lane is as before, up to what is flushed
use Rattle.std.specs.Prelude.{◌≡◌, ℕ, suc, ◌<◌, ◌==◌, Bool, false, ◌||◌, All, List, [], ◌∷◌, length, slice_index_or, slice_set, IsTrue, None, if◌then◌else◌}
use Rattle.hq_lane.specs.BucketFiles.{BucketState, file_bytes, KeepsBytes, KeepsFile, IsSealed}
use Rattle.hq_lane.specs.Lanes.{LaneState, EachFile, AreWhole, AreSealed, HaveNoSeal}
use Rattle.hq_txn.specs.declared.state.TxnState.{TxnState}
use Rattle.hq_txn.specs.declared.state.TxnState.TheVariants as state

-- its state, whether its first look stands for all of it, its lanes in the order in which they were lent, and for how many
-- more there is room
pub record Transaction : Type 0 where
  pub state : TxnState
  pub snapshot : Bool
  pub lanes : List LaneState
  pub spare : ℕ

abbrev pub no_lane : LaneState
no_lane = record { table = 0; number = 0; files = [] }

-- the lane at a place
abbrev pub lane_at : List LaneState → ℕ → LaneState
lane_at lanes n = slice_index_or lanes n no_lane

-- one of the lanes is of the table
abbrev pub has_lane : List LaneState → ℕ → Bool
has_lane [] table = false
has_lane (lane ∷ lanes) table = (lane.table == table) || has_lane lanes table

-- the place of the first lane that is of the table
abbrev pub place_of : List LaneState → ℕ → ℕ
place_of [] table = 0
place_of (lane ∷ lanes) table = if lane.table == table then 0 else suc (place_of lanes table)

-- the lane there
abbrev pub lane_of : List LaneState → ℕ → LaneState
lane_of lanes table = lane_at lanes (place_of lanes table)

-- the lanes with this one at the place of the table's
abbrev pub with_lane : List LaneState → ℕ → LaneState → List LaneState
with_lane lanes table lane = slice_set lanes (place_of lanes table) lane

-- no two lanes are of one table
abbrev pub HaveOwnTables : List LaneState → Type 0
HaveOwnTables lanes = (i j : ℕ) → i < length lanes → j < length lanes → (lane_at lanes i).table ≡ (lane_at lanes j).table → i ≡ j

-- an idle one has no lane, no lane of an open one is torn, none has a fresh seal, and no two are of one table
pub record IsTransaction (now : TxnState) (lanes : List LaneState) : Type 0 where
  pub idle : now ≡ state.Idle → lanes ≡ []
  pub whole : now ≡ state.Open → All (λ lane. AreWhole lane.files) lanes
  pub no_seal : All (λ lane. HaveNoSeal lane.files) lanes
  pub own_tables : HaveOwnTables lanes

-- a file that has grown has a fresh seal of all its bytes, and one that has not has none; no byte changed
pub record IsReady (told seal_told : Bool) (old new : BucketState) : Type 0 where
  pub id : new.id ≡ old.id
  pub bytes : IsTrue told → file_bytes new.file ≡ file_bytes old.file
  pub good : new.good ≡ old.good
  pub base : new.base ≡ old.base
  pub sealed : IsSealed told seal_told new
  pub still : old.base ≡ old.good → new.fresh ≡ None

-- a lane is sealed, and none of its bytes changed
pub record IsPrepared (told seal_told : Bool) (old new : LaneState) : Type 0 where
  pub table : new.table ≡ old.table
  pub number : new.number ≡ old.number
  pub files : EachFile (IsReady told seal_told) old.files new.files

-- a lane has a fresh seal of each file that has grown, and nothing else changed
pub record IsSealedFrom (told seal_told : Bool) (old new : LaneState) : Type 0 where
  pub table : new.table ≡ old.table
  pub number : new.number ≡ old.number
  pub sealed : AreSealed told seal_told new.files
  pub kept : EachFile (KeepsFile told) old.files new.files

-- a lane is as before, up to what is flushed
pub record IsUnsealed (told : Bool) (old new : LaneState) : Type 0 where
  pub table : new.table ≡ old.table
  pub number : new.number ≡ old.number
  pub files : EachFile (KeepsBytes told) old.files new.files
