-- What holds of every transaction, as its state changes, a lane comes, one changes, and the first goes.
use Rattle.std.proofs.Common.{◌≡◌, ◌∙◌, ℕ, ◌<◌, Bool, false, All, List, [], ◌∷◌, ◌++◌, length, drop, slice_set, refl, sym, subst, arith}
use Rattle.std.proofs.lemmas.List.{length-set, get_or_default}
use Rattle.std.proofs.lemmas.List.Elements.{All-nil, All-cons, All-append}
use Rattle.hq_value.specs.declared.value.Value.{Value}
use Rattle.hq_value.specs.Tables.{Definition}
use Rattle.hq_lane.specs.Lanes.{LaneState, AreClean, AreWhole, HaveNoSeal}
use Rattle.hq_txn.specs.declared.state.TxnState.{TxnState}
use Rattle.hq_txn.specs.declared.state.TxnState.TheVariants as state
use Rattle.hq_txn.specs.Transactions.{no_lane, lane_at, has_lane, HaveOwnTables, IsTransaction, IsUnsealed}
use Rattle.hq_txn.specs.Writes.{AddsRows, AddsFirst}
use Rattle.hq_txn.proofs.InHand.{own-tables-more, own-tables-behind, own-tables-same}
use Rattle.hq_txn.proofs.Listing.{All-set, All-behind, set-each}

own-tables-set : (lanes : List LaneState) (i : ℕ) (lane : LaneState) → i < length lanes → lane.table ≡ (lane_at lanes i).table → HaveOwnTables lanes → HaveOwnTables (slice_set lanes i lane)
own-tables-set lanes i lane within table own =
    own-tables-same lanes (slice_set lanes i lane) (length-set lanes i lane) (set-each no_lane (λ n (l : LaneState). l.table ≡ (lane_at lanes n).table) lanes i lane within (λ n apart. refl) table) own

-- without lanes
pub stands-none : (now : TxnState) (lanes : List LaneState) → lanes ≡ [] → IsTransaction now lanes
stands-none now lanes none = subst (IsTransaction now) (sym none) (record {
  idle = λ _. refl;
  whole = λ _. All-nil (λ (lane : LaneState). AreWhole lane.files);
  no_seal = All-nil (λ (lane : LaneState). HaveNoSeal lane.files);
  own_tables = λ i j hi hj same. absurd (omega (arith, hi));
})

-- one that has failed
pub stands-failed : (lanes : List LaneState) → All (λ lane. HaveNoSeal lane.files) lanes → HaveOwnTables lanes → IsTransaction state.Failed lanes
stands-failed lanes none own = record { idle = λ (e : state.Failed ≡ state.Idle). cc; whole = λ (e : state.Failed ≡ state.Open). cc; no_seal = none; own_tables = own }

-- an open one
pub stands-open : (lanes : List LaneState) → All (λ lane. AreWhole lane.files) lanes → All (λ lane. HaveNoSeal lane.files) lanes → HaveOwnTables lanes → IsTransaction state.Open lanes
stands-open lanes whole none own = record { idle = λ (e : state.Open ≡ state.Idle). cc; whole = λ _. whole; no_seal = none; own_tables = own }

-- a clean lane of another table comes
pub stands-more : (now : TxnState) (lanes : List LaneState) (lane : LaneState) → now ≡ state.Open → IsTransaction now lanes → AreClean lane.files → HaveNoSeal lane.files → has_lane lanes lane.table ≡ false → IsTransaction now (lanes ++ lane ∷ [])
stands-more now lanes lane opened is clean none other =
    subst (λ (s : TxnState). IsTransaction s (lanes ++ lane ∷ [])) (sym opened)
    (stands-open (lanes ++ lane ∷ [])
    (All-append (λ (l : LaneState). AreWhole l.files) lanes (lane ∷ []) (is.whole opened) (All-cons (λ (l : LaneState). AreWhole l.files) lane [] (λ b within. (clean b within).0) (All-nil (λ (l : LaneState). AreWhole l.files))))
    (All-append (λ (l : LaneState). HaveNoSeal l.files) lanes (lane ∷ []) is.no_seal (All-cons (λ (l : LaneState). HaveNoSeal l.files) lane [] none (All-nil (λ (l : LaneState). HaveNoSeal l.files))))
    (own-tables-more lanes lane is.own_tables other))

-- the first goes
pub stands-behind : (now : TxnState) (lanes : List LaneState) → IsTransaction now lanes → IsTransaction state.Failed (drop 1 lanes)
stands-behind now lanes is = stands-failed (drop 1 lanes) (All-behind (λ (l : LaneState). HaveNoSeal l.files) lanes is.no_seal) (own-tables-behind lanes is.own_tables)

-- lanes that were flushed
pub stands-unsealed : (told : Bool) (now : TxnState) (old new : List LaneState) → length new ≡ length old → IsTransaction now old → ((n : ℕ) → IsUnsealed told (lane_at old n) (lane_at new n)) → IsTransaction state.Failed new
stands-unsealed told now old new long is kept = stands-failed new
    (λ k d within. subst (λ (l : LaneState). HaveNoSeal l.files) (get_or_default new k no_lane d within)
    (λ b bucket. ((kept k).files b bucket).fresh ∙ is.no_seal k no_lane (omega (arith, within, long)) b bucket))
    (own-tables-same old new long (λ n. (kept n).table) is.own_tables)

-- a lane that was written
pub stands-written : (now : TxnState) (lanes : List LaneState) (i : ℕ) (lane : LaneState) → now ≡ state.Open → i < length lanes → IsTransaction now lanes → lane.table ≡ (lane_at lanes i).table → AreWhole lane.files → HaveNoSeal lane.files → IsTransaction now (slice_set lanes i lane)
stands-written now lanes i lane opened within is table whole none =
    subst (λ (s : TxnState). IsTransaction s (slice_set lanes i lane)) (sym opened)
    (stands-open (slice_set lanes i lane)
    (All-set (λ (l : LaneState). AreWhole l.files) lanes i lane (is.whole opened) whole)
    (All-set (λ (l : LaneState). HaveNoSeal l.files) lanes i lane is.no_seal none)
    (own-tables-set lanes i lane within table is.own_tables))

-- a lane that was begun
pub stands-begun : (now : TxnState) (lanes : List LaneState) (i : ℕ) (lane : LaneState) → i < length lanes → IsTransaction now lanes → lane.table ≡ (lane_at lanes i).table → HaveNoSeal lane.files → IsTransaction state.Failed (slice_set lanes i lane)
stands-begun now lanes i lane within is table none =
    stands-failed (slice_set lanes i lane) (All-set (λ (l : LaneState). HaveNoSeal l.files) lanes i lane is.no_seal none) (own-tables-set lanes i lane within table is.own_tables)

-- a lane that was begun has no seal, and one that was written is not torn
pub no-seal-begun : (told : Bool) (def : Definition) (rows : List (List Value)) (old new : LaneState) → AddsFirst told def rows old new → HaveNoSeal old.files → HaveNoSeal new.files
no-seal-begun told def rows old new first none = λ b within. (first.files b within).1.grown.fresh ∙ none b within

pub whole-written : (told : Bool) (def : Definition) (rows : List (List Value)) (old new : LaneState) → AddsRows told def rows old new → AreWhole new.files
whole-written told def rows old new wrote = λ b within. (wrote.files b within).whole
