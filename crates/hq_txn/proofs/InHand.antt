-- The lanes in hand, as one comes, one changes, and the first goes.
use Rattle.std.proofs.Common.{◌≡◌, ◌∙◌, ◌⊎◌, inl, inr, ℕ, zero, suc, ◌+◌, ◌<◌, ◌≤◌, ◌==◌, Bool, true, false, ◌||◌, cond, List, [], ◌∷◌, ◌++◌, length, drop, drop-cons, slice_set, slice_index_or, refl, sym, ap, subst, None, arith, eq-eqb, add-one, length-append}
use Rattle.std.proofs.lemmas.Bool.{cases_lt, false≢true}
use Rattle.std.proofs.lemmas.List.{get_or-set_same, get_or_default}
use Rattle.std.proofs.Math.ListN.{get_or-append}
use Rattle.std.proofs.Math.Seq.{get_or-append_seam}
use Rattle.hq_lane.specs.BucketFiles.{BucketState, KeepsBytes, KeepsFile, IsSealed}
use Rattle.hq_lane.specs.Lanes.{LaneState, file_of, HaveNoSeal}
use Rattle.hq_txn.specs.Transactions.{no_lane, lane_at, has_lane, place_of, lane_of, with_lane, HaveOwnTables, IsReady, IsPrepared, IsSealedFrom, IsUnsealed}

-- the lane at the place is of the table
pub found-here : (lanes : List LaneState) (i table : ℕ) → i < length lanes → (lane_at lanes i).table ≡ table → place_of (drop i lanes) table ≡ 0
found-here lanes i table within same =
    ap (λ (rest : List LaneState). place_of rest table) (drop-cons lanes i no_lane within)
    ∙ ap (λ (here : Bool). cond here 0 (suc (place_of (drop (suc i) lanes) table))) (eq-eqb (lane_at lanes i).table table same)

-- it is not
pub found-behind : (lanes : List LaneState) (i table : ℕ) → i < length lanes → ((lane_at lanes i).table == table) ≡ false
    → (place_of (drop i lanes) table ≡ suc (place_of (drop (i + 1) lanes) table)) × (has_lane (drop i lanes) table ≡ has_lane (drop (i + 1) lanes) table)
found-behind lanes i table within other = rw add-one (
  ap (λ (rest : List LaneState). place_of rest table) (drop-cons lanes i no_lane within)
      ∙ ap (λ (here : Bool). cond here 0 (suc (place_of (drop (suc i) lanes) table))) other,
  ap (λ (rest : List LaneState). has_lane rest table) (drop-cons lanes i no_lane within)
      ∙ ap (λ (here : Bool). here || has_lane (drop (suc i) lanes) table) other,
)

neither : (a b : Bool) → (a || b) ≡ false → (a ≡ false) × (b ≡ false)
neither true b e = absurd (false≢true (sym e))
neither false b e = (refl, e)

-- none of the lanes is of the table
of-others : (lanes : List LaneState) (table : ℕ) → has_lane lanes table ≡ false → (i : ℕ) → i < length lanes → (lane_at lanes i).table ≡ table → ⊥
of-others [] table none i within same = omega (arith, within)
of-others (lane ∷ lanes) table none zero within same = false≢true (sym (neither (lane.table == table) (has_lane lanes table) none).0 ∙ eq-eqb lane.table table same)
of-others (lane ∷ lanes) table none (suc i) within same = of-others lanes table (neither (lane.table == table) (has_lane lanes table) none).1 i (omega (arith, within)) same

-- a lane of another table comes
pub own-tables-more : (lanes : List LaneState) (lane : LaneState) → HaveOwnTables lanes → has_lane lanes lane.table ≡ false → HaveOwnTables (lanes ++ lane ∷ [])
own-tables-more lanes lane own none i j hi hj same = by (cases_lt i (length lanes)) (cases_lt j (length lanes))
  where
    long : length (lanes ++ lane ∷ []) ≡ length lanes + 1
    long = length-append lanes (lane ∷ [])

    front : (k : ℕ) → k < length lanes → lane_at (lanes ++ lane ∷ []) k ≡ lane_at lanes k
    front k within = get_or-append lanes (lane ∷ []) no_lane k within

    last : (k : ℕ) → length lanes ≤ k → k < length (lanes ++ lane ∷ []) → k ≡ length lanes
    last k behind within = omega (arith, behind, within, long)

    seam : (k : ℕ) → k ≡ length lanes → lane_at (lanes ++ lane ∷ []) k ≡ lane
    seam k e = ap (λ (n : ℕ). lane_at (lanes ++ lane ∷ []) n) e ∙ get_or-append_seam lanes lane [] no_lane

    table : LaneState → ℕ
    table l = l.table

    by : (i < length lanes) ⊎ (length lanes ≤ i) → (j < length lanes) ⊎ (length lanes ≤ j) → i ≡ j
    by (inl a) (inl b) = own i j a b (ap (λ (l : LaneState). l.table) (sym (front i a)) ∙ same ∙ ap (λ (l : LaneState). l.table) (front j b))
    by (inl a) (inr b) = absurd (of-others lanes lane.table none i a (ap (λ (l : LaneState). l.table) (sym (front i a)) ∙ same ∙ ap (λ (l : LaneState). l.table) (seam j (last j b hj))))
    by (inr a) (inl b) = absurd (of-others lanes lane.table none j b (ap (λ (l : LaneState). l.table) (sym (front j b)) ∙ sym same ∙ ap (λ (l : LaneState). l.table) (seam i (last i a hi))))
    by (inr a) (inr b) = last i a hi ∙ sym (last j b hj)

-- the first goes
pub own-tables-behind : (lanes : List LaneState) → HaveOwnTables lanes → HaveOwnTables (drop 1 lanes)
own-tables-behind [] own = own
own-tables-behind (lane ∷ lanes) own = λ i j hi hj same. let e : suc i ≡ suc j = own (suc i) (suc j) (omega (arith, hi)) (omega (arith, hj)) same in omega (arith, e)

-- each stays of its table
pub own-tables-same : (old new : List LaneState) → length new ≡ length old → ((n : ℕ) → (lane_at new n).table ≡ (lane_at old n).table) → HaveOwnTables old → HaveOwnTables new
own-tables-same old new long same own = λ i j hi hj e. own i j (omega (arith, hi, long)) (omega (arith, hj, long)) (sym (same i) ∙ e ∙ same j)

ready : (told seal_told : Bool) (old mid new : BucketState) → KeepsBytes told old mid → KeepsFile told mid new → IsSealed told seal_told new → old.fresh ≡ None → IsReady told seal_told old new
ready told seal_told old mid new flushed sealed is none = record {
  id = sealed.id ∙ flushed.id;
  bytes = λ t. sealed.bytes t ∙ flushed.bytes t;
  good = sealed.good ∙ flushed.good;
  base = sealed.base ∙ flushed.base;
  sealed = is;
  still = λ e. ap (λ (f : BucketState). f.fresh) (sealed.still (flushed.base ∙ e ∙ sym flushed.good)) ∙ flushed.fresh ∙ none;
}

-- a lane that was flushed and then sealed
pub prepared : (told seal_told : Bool) (old mid new : LaneState) → IsUnsealed told old mid → IsSealedFrom told seal_told mid new → HaveNoSeal old.files → IsPrepared told seal_told old new
prepared told seal_told old mid new flushed sealed none = record {
  table = sealed.table ∙ flushed.table;
  number = sealed.number ∙ flushed.number;
  files = λ b within. ready told seal_told (file_of old.files b) (file_of mid.files b) (file_of new.files b) (flushed.files b within) (sealed.kept b within) (sealed.sealed b within) (none b within);
}

-- one of the lanes is of the table, and another of that table is put in its place: it is the table's lane
pub place-set : (lanes : List LaneState) (table : ℕ) (lane : LaneState) → lane.table ≡ (lane_of lanes table).table → place_of lanes table < length lanes → place_of (slice_set lanes (place_of lanes table) lane) table ≡ place_of lanes table
place-set [] table lane same within = refl
place-set (first ∷ lanes) table lane same within = by (first.table == table) refl (λ is inside. place-set lanes table lane is inside)
  where
    by : (here : Bool) → (first.table == table) ≡ here → (lane.table ≡ (lane_of lanes table).table → place_of lanes table < length lanes → place_of (slice_set lanes (place_of lanes table) lane) table ≡ place_of lanes table)
        → place_of (slice_set (first ∷ lanes) (place_of (first ∷ lanes) table) lane) table ≡ place_of (first ∷ lanes) table
    by true e behind =
        let at : place_of (first ∷ lanes) table ≡ 0 = ap (λ (here : Bool). cond here 0 (suc (place_of lanes table))) e in
        let is : lane.table ≡ first.table = same ∙ ap (λ (n : ℕ). (lane_at (first ∷ lanes) n).table) at in
        let own : (lane.table == table) ≡ true = ap (λ (n : ℕ). n == table) is ∙ e in
        ap (λ (n : ℕ). place_of (slice_set (first ∷ lanes) n lane) table) at ∙ ap (λ (here : Bool). cond here 0 (suc (place_of lanes table))) own ∙ sym at
    by false e behind =
        let at : place_of (first ∷ lanes) table ≡ suc (place_of lanes table) = ap (λ (here : Bool). cond here 0 (suc (place_of lanes table))) e in
        let is : lane.table ≡ (lane_of lanes table).table = same ∙ ap (λ (n : ℕ). (lane_at (first ∷ lanes) n).table) at in
        let inside : place_of lanes table < length lanes = omega (arith, within, at) in
        ap (λ (n : ℕ). place_of (slice_set (first ∷ lanes) n lane) table) at
        ∙ ap (λ (here : Bool). cond here 0 (suc (place_of (slice_set lanes (place_of lanes table) lane) table))) e
        ∙ ap suc (behind is inside) ∙ sym at

pub lane-set : (lanes : List LaneState) (table : ℕ) (lane : LaneState) → lane.table ≡ (lane_of lanes table).table → place_of lanes table < length lanes → lane_of (slice_set lanes (place_of lanes table) lane) table ≡ lane
lane-set lanes table lane same within =
    ap (lane_at (slice_set lanes (place_of lanes table) lane)) (place-set lanes table lane same within) ∙ get_or-set_same lanes (place_of lanes table) lane no_lane within

-- the table's lane is written in its place: what is left of the lanes, and the table's lane before and after
module _ (lanes new : List LaneState) (table place : ℕ) (was lane : LaneState) (found : place ≡ place_of lanes table) (inside : place < length lanes) (read : was ≡ slice_index_or lanes place was)
    (now : new ≡ slice_set lanes place lane) (same : lane.table ≡ was.table) where
  before-is : was ≡ lane_of lanes table
  before-is = read ∙ get_or_default lanes place was no_lane inside ∙ ap (lane_at lanes) found

  after-is : lane_of new table ≡ lane
  after-is =
      ap (λ (ls : List LaneState). lane_of ls table) (now ∙ ap (λ (n : ℕ). slice_set lanes n lane) found)
      ∙ lane-set lanes table lane (same ∙ ap (λ (l : LaneState). l.table) before-is) (subst (λ (n : ℕ). n < length lanes) found inside)

  pub only-one : new ≡ with_lane lanes table (lane_of new table)
  only-one = now ∙ ap (λ (n : ℕ). slice_set lanes n lane) found ∙ ap (λ (l : LaneState). slice_set lanes (place_of lanes table) l) (sym after-is)

  pub carried : (R : LaneState → LaneState → Type 0) → R was lane → R (lane_of lanes table) (lane_of new table)
  carried R holds = subst (λ (l : LaneState). R l (lane_of new table)) before-is (subst (R was) (sym after-is) holds)
