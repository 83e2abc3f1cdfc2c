-- Lanes in hand as the history goes on.
use Rattle.std.proofs.Common.{◌≡◌, ◌⊎◌, inl, inr, ◌<◌, ℕ, zero, suc, ◌==◌, ◌&&◌, ◌||◌, Bool, true, false, cond, List, [], ◌∷◌, ◌++◌, length, map, Option, Some, None, refl, sym, ◌∙◌, ap, subst, arith, IsTrue, slice_get, slice_set, slice_index_or}
use Rattle.std.specs.List.{list_any}
use Rattle.std.proofs.Common.{length-append, take, drop}
use Rattle.std.proofs.lemmas.List.{append-nil, take-append-le}
use Rattle.std.proofs.lemmas.Bool.{eqb-true}
use Rattle.hq_value.specs.declared.entry.Entry.{Entry}
use Rattle.hq_value.specs.declared.entry.EntryKind.{EntryKind}
use Rattle.hq_value.specs.declared.entry.EntryKind.TheVariants as entry
use Rattle.hq_value.specs.declared.table.Column.{Column}
use Rattle.hq_value.specs.Tables.{Definition}
use Rattle.hq_value.specs.Kinds.{kinds_of}
use Rattle.hq_block.specs.Block.{FileRows}
use Rattle.hq_log.specs.declared.place.Place.{Place}
use Rattle.hq_log.specs.declared.place.Place.TheVariants.{Unborn, Clean, Dirty, Out, Sweeping}
use Rattle.hq_log.specs.Places.{is_out_to, is_swept_by}
use Rattle.hq_log.specs.Pools.{pool, places_after, home, committed}
use Rattle.hq_log.specs.Legal.{IsAt, IsLegal}
use Rattle.hq_lane.specs.BucketFiles.{BucketState, base_bytes, own_bytes, file_bytes, KeepsBase, IsSealed}
use Rattle.hq_lane.specs.Lanes.{LaneState, EachFile, HaveNoSeal, AreSealed, file_of, id_of}
use Rattle.hq_history.specs.declared.noted.Noted.{Noted}
use Rattle.hq_history.specs.declared.noted.Deposit.{Deposit}
use Rattle.hq_history.specs.declared.noted.Deposit.TheVariants.{Nothing}
use Rattle.hq_history.specs.History.{entries_of, GrewByOthers}
use Rattle.hq_history.specs.Deposits.{tables_left, tables_after, growths_in, length_left, length_after, bytes_left, bytes_of}
use Rattle.hq_history.proofs.Files.{length_left-push, bytes_left-push}
use Rattle.hq_catalog.specs.CatStep.{noted}
use Rattle.hq_catalog.specs.Files.{def_in, def_at, FitBytes, GoTo}
use Rattle.hq_catalog.specs.Lanes.{IsOut, Agrees}
use Rattle.hq_catalog.specs.Asks.{lane_at, HasLane, MayBack, MayCommitOne, MayCommit}
use Rattle.hq_catalog.specs.Stands.{AreOwnSteps}
use Rattle.hq_catalog.proofs.Others.{GoesOn, IsWider, goes_on, entries-append, pool-push, tables-push}
use Rattle.hq_catalog.proofs.Seen.{out_same, same_swept}
use Rattle.hq_txn.specs.Transactions.{IsPrepared, IsReady}
use Rattle.hq_turns.specs.Held.{slot_of}
use Rattle.hq_turns.specs.Hand.{InHand}

-- ---- others add to the history

-- blocks of a table's first columns are those of a wider one
fit-wider : (old new : Definition) (b : ℕ) (bytes : List ℕ) → IsWider old new → FitBytes old b bytes → FitBytes new b bytes
fit-wider old new b bytes w f = record {
  columns = f.columns;
  within = omega (arith, f.within, ap (λ (cs : List Column). length cs) w.columns, length-append old.columns w.more);
  rows = f.rows;
  file = subst (λ cs. FileRows (kinds_of cs) bytes f.rows) (sym (ap (take f.columns) w.columns ∙ take-append-le f.columns old.columns w.more f.within)) f.file;
  bucket = subst (λ keys. GoTo keys b f.rows) (sym w.keys) f.bucket;
}

pub hand-on : (files seals : Bool) (k : ℕ) (seen next : List Noted) (lanes : List LaneState) → GoesOn k seen next → InHand files seals k seen lanes → InHand files seals k next lanes
hand-on files seals k seen next lanes g x = record {
  out = λ i h. out_same k (pool (entries_of seen) (lane_at lanes i).table) (pool (entries_of next) (lane_at lanes i).table) (lane_at lanes i).number (g.mine (lane_at lanes i).table) (x.out i h);
  agrees = λ i h. let l : LaneState = lane_at lanes i in record {
    base = λ b lt. (x.agrees i h).base b lt ∙ sym (g.lengths l.table l.number (inl (x.out i h)) b);
    bytes = λ t b lt. (x.agrees i h).bytes t b lt ∙ sym (g.bytes l.table l.number (inl (x.out i h)) b);
  };
  made = λ i h. omega (arith, x.made i h, g.tables);
  fit = λ i h told b lt. fit-wider (def_at seen (lane_at lanes i).table) (def_at next (lane_at lanes i).table) b (own_bytes (file_of (lane_at lanes i).files b))
      (g.wider (lane_at lanes i).table (x.made i h)) (x.fit i h told b lt);
  apart = x.apart;
  all = λ t n at. x.all t n (out_same k (pool (entries_of next) t) (pool (entries_of seen) t) n (sym (g.mine t)) at);
  none_swept = λ t. same_swept k (pool (entries_of seen) t) (pool (entries_of next) t) (g.mine t) ∙ x.none_swept t;
}

-- ---- an entry more

log-push : (before : List Noted) (n : Noted) → entries_of (before ++ n ∷ []) ≡ entries_of before ++ n.entry ∷ []
log-push before n = entries-append before (n ∷ [])

pool-at : (before : List Noted) (n : Noted) (t : ℕ) → pool (entries_of (before ++ n ∷ [])) t ≡ places_after t (pool (entries_of before) t) n.entry.session n.entry.kind
pool-at before n t = ap (λ log. pool log t) (log-push before n) ∙ pool-push (entries_of before) n.entry t

agrees-push : (told : Bool) (before : List Noted) (n : Noted) (l : LaneState) → growths_in n.deposit ≡ [] → Agrees told before l → Agrees told (before ++ n ∷ []) l
agrees-push told before n l none a = record {
  base = λ b lt. a.base b lt ∙ sym (length_left-push before n (id_of l.table l.number b) ∙ ap (length_after (id_of l.table l.number b) (length_left before (id_of l.table l.number b))) none);
  bytes = λ t b lt. a.bytes t b lt ∙ sym (bytes_left-push before n (id_of l.table l.number b) ∙ ap (λ gs. bytes_left before (id_of l.table l.number b) ++ bytes_of (id_of l.table l.number b) gs) none ∙ append-nil (bytes_left before (id_of l.table l.number b)));
}

-- an entry that moves no lane and adds to no file
pub hand-still : (files seals : Bool) (k : ℕ) (before : List Noted) (n : Noted) (lanes : List LaneState) → growths_in n.deposit ≡ []
    → ((t : ℕ) → places_after t (pool (entries_of before) t) n.entry.session n.entry.kind ≡ pool (entries_of before) t)
    → tables_after (tables_left before) n.deposit ≡ tables_left before → InHand files seals k before lanes → InHand files seals k (before ++ n ∷ []) lanes
hand-still files seals k before n lanes none same kept x = record {
  out = λ i h. subst (λ ps. slice_get ps (lane_at lanes i).number ≡ Some (Out k)) (sym (still (lane_at lanes i).table)) (x.out i h);
  made = λ i h. subst (λ ts. (lane_at lanes i).table < length ts) (sym tables) (x.made i h);
  agrees = λ i h. agrees-push (files && seals) before n (lane_at lanes i) none (x.agrees i h);
  fit = λ i h told b lt. subst (λ ts. FitBytes (def_in ts (lane_at lanes i).table) b (own_bytes (file_of (lane_at lanes i).files b))) (sym tables) (x.fit i h told b lt);
  apart = x.apart;
  all = λ t m at. x.all t m (subst (λ ps. slice_get ps m ≡ Some (Out k)) (still t) at);
  none_swept = λ t. subst (λ ps. list_any (is_swept_by k) ps ≡ false) (sym (still t)) (x.none_swept t);
}
  where
    still : (t : ℕ) → pool (entries_of (before ++ n ∷ [])) t ≡ pool (entries_of before) t
    still t = pool-at before n t ∙ same t

    tables : tables_left (before ++ n ∷ []) ≡ tables_left before
    tables = tables-push before n ∙ kept

-- ---- a Commit brings every lane home

true-is-not-false : true ≡ false → ⊥
true-is-not-false e = cc

not-out : (k : ℕ) (p : Place) → committed k p ≡ Out k → ⊥
not-out k Unborn h = cc
not-out k Clean h = cc
not-out k Dirty h = cc
not-out k (Sweeping j) h = cc
not-out k (Out j) h = by (k == j) refl h
  where
    out-eq : {a b : ℕ} → Out a ≡ Out b → a ≡ b
    out-eq e = cc

    same : (n : ℕ) → (n == n) ≡ true
    same n = grind arith

    clean-is-not-out : Clean ≡ Out k → ⊥
    clean-is-not-out e = cc

    by : (b : Bool) → (k == j) ≡ b → cond b Clean (Out j) ≡ Out k → ⊥
    by true e h = clean-is-not-out h
    by false e h = true-is-not-false (sym (same k) ∙ ap (λ n. k == n) (sym (out-eq h)) ∙ e)

none-out : (k : ℕ) (ps : List Place) (n : ℕ) → slice_get (map (committed k) ps) n ≡ Some (Out k) → ⊥
none-out k [] n h = cc
none-out k (p ∷ ps) zero h = not-out k p (some-eq h)
  where
    some-eq : {a b : Place} → Some a ≡ Some b → a ≡ b
    some-eq e = cc
none-out k (p ∷ ps) (suc n) h = none-out k ps n h

swept-committed : (k : ℕ) (p : Place) → is_swept_by k (committed k p) ≡ is_swept_by k p
swept-committed k Unborn = refl
swept-committed k Clean = refl
swept-committed k Dirty = refl
swept-committed k (Sweeping j) = refl
swept-committed k (Out j) = by (k == j)
  where
    by : (b : Bool) → is_swept_by k (cond b Clean (Out j)) ≡ false
    by true = refl
    by false = refl

any-committed : (k : ℕ) (ps : List Place) → list_any (is_swept_by k) (map (committed k) ps) ≡ list_any (is_swept_by k) ps
any-committed k [] = refl
any-committed k (p ∷ ps) = rw (swept-committed k p) (rw (any-committed k ps) refl)

pub hand-committed : (files seals : Bool) (k m : ℕ) (before : List Noted) (d : Deposit) (lanes : List LaneState) → InHand files seals k before lanes
    → InHand files seals k (before ++ noted k m entry.Commit d ∷ []) []
hand-committed files seals k m before d lanes x = record {
  out = λ i h. absurd (omega (arith, h));
  made = λ i h. absurd (omega (arith, h));
  agrees = λ i h. absurd (omega (arith, h));
  fit = λ i h told b lt. absurd (omega (arith, h));
  apart = λ i j h l e. absurd (omega (arith, h));
  all = λ t n at. absurd (none-out k (pool (entries_of before) t) n (subst (λ ps. slice_get ps n ≡ Some (Out k)) (pool-at before (noted k m entry.Commit d) t) at));
  none_swept = λ t. subst (λ ps. list_any (is_swept_by k) ps ≡ false) (sym (pool-at before (noted k m entry.Commit d) t)) (any-committed k (pool (entries_of before) t) ∙ x.none_swept t);
}

-- ---- a Back brings one lane home

get-set : (xs : List Place) (i j : ℕ) (y z : Place) → slice_get (slice_set xs i y) j ≡ Some z → (z ≡ y) ⊎ ((j ≡ i → ⊥) × (slice_get xs j ≡ Some z))
get-set [] i j y z h = cc
get-set (x ∷ xs) zero zero y z h = inl (some-eq h)
  where
    some-eq : {a b : Place} → Some a ≡ Some b → b ≡ a
    some-eq e = cc
get-set (x ∷ xs) zero (suc j) y z h = inr ((λ e. omega (arith, e)), h)
get-set (x ∷ xs) (suc i) zero y z h = inr ((λ e. omega (arith, e)), h)
get-set (x ∷ xs) (suc i) (suc j) y z h = elim (get-set xs i j y z h) [ inl e ↦ inl e | inr e ↦ inr ((λ s. e.0 (omega (arith, s))), e.1) ]

home-is-not-out : (clean : Bool) (k : ℕ) → Out k ≡ home clean → ⊥
home-is-not-out true k h = cc
home-is-not-out false k h = cc

home-is-not-swept : (clean : Bool) (k : ℕ) → is_swept_by k (home clean) ≡ false
home-is-not-swept true k = refl
home-is-not-swept false k = refl

none-behind : (a b : Bool) → (a || b) ≡ false → b ≡ false
none-behind true b e = cc
none-behind false b e = e

none-beside : (a b c : Bool) → (a || b) ≡ false → (b ≡ false → c ≡ false) → (a || c) ≡ false
none-beside true b c e h = cc
none-beside false b c e h = h e

set-none : (k : ℕ) (xs : List Place) (i : ℕ) (y : Place) → is_swept_by k y ≡ false → list_any (is_swept_by k) xs ≡ false → list_any (is_swept_by k) (slice_set xs i y) ≡ false
set-none k [] i y h none = none
set-none k (x ∷ xs) zero y h none = rw h (none-behind (is_swept_by k x) (list_any (is_swept_by k) xs) none)
set-none k (x ∷ xs) (suc i) y h none =
    none-beside (is_swept_by k x) (list_any (is_swept_by k) xs) (list_any (is_swept_by k) (slice_set xs i y)) none (λ e. set-none k xs i y h e)

module _ (files seals : Bool) (k m : ℕ) (before : List Noted) (l : LaneState) (lanes : List LaneState) (clean : Bool) (x : InHand files seals k before (l ∷ lanes)) where
  abbrev pub back : Noted
  back = noted k m (entry.Back l.table l.number clean) Nothing

  abbrev places : ℕ → List Place
  places t = pool (entries_of before) t

  moved : (t : ℕ) (b : Bool) → (t == l.table) ≡ b → pool (entries_of (before ++ back ∷ [])) t ≡ cond b (slice_set (places t) l.number (home clean)) (places t)
  moved t b e = pool-at before back t ∙ ap (λ c. cond c (slice_set (places t) l.number (home clean)) (places t)) e

  -- the other lanes are of other tables
  other : (i : ℕ) → i < length lanes → (lane_at lanes i).table ≡ l.table → ⊥
  other i h e = omega (arith, x.apart (suc i) 0 (omega (arith, h)) (omega arith) e)

  differ : (i : ℕ) → i < length lanes → ((lane_at lanes i).table == l.table) ≡ false
  differ i h = by ((lane_at lanes i).table == l.table) refl
    where
      by : (b : Bool) → ((lane_at lanes i).table == l.table) ≡ b → b ≡ false
      by true e = absurd (other i h (eqb-true (lane_at lanes i).table l.table e))
      by false e = refl

  -- a lane of hand, which is not the one that goes back
  rest : (t n : ℕ) → HasLane (l ∷ lanes) t n → ((l.table ≡ t) × (l.number ≡ n) → ⊥) → HasLane lanes t n
  rest t n (zero, h, table, number) not = absurd (not (table, number))
  rest t n (suc i, h, table, number) not = (i, omega (arith, h), table, number)

  found : (t n : ℕ) (b : Bool) → (t == l.table) ≡ b → slice_get (cond b (slice_set (places t) l.number (home clean)) (places t)) n ≡ Some (Out k) → HasLane lanes t n
  found t n false e at = rest t n (x.all t n at) (λ s. not-same (sym (ap (λ u. u == l.table) s.0) ∙ same l.table) e)
    where
      same : (a : ℕ) → (a == a) ≡ true
      same a = grind arith

      not-same : {b : Bool} → b ≡ true → b ≡ false → ⊥
      not-same p q = cc
  found t n true e at = elim (get-set (places t) l.number n (home clean) (Out k) at) [
    | inl h ↦ absurd (home-is-not-out clean k h)
    | inr h ↦ rest t n (x.all t n h.1) (λ s. h.0 (sym s.1))
  ]

  tables-back : tables_left (before ++ back ∷ []) ≡ tables_left before
  tables-back = tables-push before back

  pub hand-back : InHand files seals k (before ++ back ∷ []) lanes
  hand-back = record {
    out = λ i h. subst (λ ps. slice_get ps (lane_at lanes i).number ≡ Some (Out k)) (sym (moved (lane_at lanes i).table false (differ i h))) (x.out (suc i) (omega (arith, h)));
    made = λ i h. subst (λ ts. (lane_at lanes i).table < length ts) (sym tables-back) (x.made (suc i) (omega (arith, h)));
    agrees = λ i h. agrees-push (files && seals) before back (lane_at lanes i) refl (x.agrees (suc i) (omega (arith, h)));
    fit = λ i h told b lt. subst (λ ts. FitBytes (def_in ts (lane_at lanes i).table) b (own_bytes (file_of (lane_at lanes i).files b))) (sym tables-back) (x.fit (suc i) (omega (arith, h)) told b lt);
    apart = λ i j h g e. omega (arith, x.apart (suc i) (suc j) (omega (arith, h)) (omega (arith, g)) e);
    all = λ t n at. found t n (t == l.table) refl (subst (λ ps. slice_get ps n ≡ Some (Out k)) (moved t (t == l.table) refl) at);
    none_swept = λ t. subst (λ ps. list_any (is_swept_by k) ps ≡ false) (sym (moved t (t == l.table) refl)) (none t (t == l.table));
  }
    where
      none : (t : ℕ) (b : Bool) → list_any (is_swept_by k) (cond b (slice_set (places t) l.number (home clean)) (places t)) ≡ false
      none t true = set-none k (places t) l.number (home clean) (home-is-not-swept clean k) (x.none_swept t)
      none t false = x.none_swept t

-- ---- what may be asked

both : (a b : Bool) → IsTrue (a && b) → IsTrue a
both true b h = refl
both false b h = cc

-- a lane in hand may go back after its cut
pub may-back : (files seals : Bool) (k : ℕ) (history : List Noted) (first lane : LaneState) (lanes : List LaneState) → InHand files seals k history (first ∷ lanes)
    → slot_of lane ≡ slot_of first → EachFile (KeepsBase files) first.files lane.files → HaveNoSeal first.files
    → MayBack (files && seals) k history lane
may-back files seals k history first lane lanes x slot kept none = record {
  held = inl (subst (λ t. slice_get (pool (entries_of history) t) lane.number ≡ Some (Out k)) (sym table) (subst (λ n. slice_get (pool (entries_of history) first.table) n ≡ Some (Out k)) (sym number) (x.out 0 (omega arith))));
  agrees = record {
    base = λ b lt. (kept b lt).base ∙ (x.agrees 0 (omega arith)).base b lt ∙ ap (length_left history) (sym (ids b));
    bytes = λ t b lt. (kept b lt).bytes (both files seals t) ∙ (x.agrees 0 (omega arith)).bytes t b lt ∙ ap (bytes_left history) (sym (ids b));
  };
  no_seal = λ b lt. (kept b lt).fresh ∙ none b lt;
}
  where
    table : lane.table ≡ first.table
    table = ap (λ (s : ℕ × ℕ). s.0) slot

    number : lane.number ≡ first.number
    number = ap (λ (s : ℕ × ℕ). s.1) slot

    ids : (b : ℕ) → id_of lane.table lane.number b ≡ id_of first.table first.number b
    ids b = ap (λ t. id_of t lane.number b) table ∙ ap (λ n. id_of first.table n b) number

-- ---- a Commit of all lanes, once they are sealed

own-same : (files : Bool) (old new : BucketState) (seals : Bool) → IsReady files seals old new → IsTrue files → own_bytes new ≡ own_bytes old
own-same files old new seals r told =
    ap (λ b. drop b (take new.good (file_bytes new.file))) r.base ∙ ap (λ g. drop old.base (take g (file_bytes new.file))) r.good ∙ ap (λ f. drop old.base (take old.good f)) (r.bytes told)

base-same : (files : Bool) (old new : BucketState) (seals : Bool) → IsReady files seals old new → IsTrue files → base_bytes new ≡ base_bytes old
base-same files old new seals r told = ap (λ b. take b (file_bytes new.file)) r.base ∙ ap (λ f. take old.base f) (r.bytes told)

commits-one : (files seals : Bool) (k : ℕ) (history : List Noted) (old new : LaneState) → IsPrepared files seals old new → IsOut (entries_of history) k old
    → old.table < length (tables_left history) → Agrees (files && seals) history old
    → (IsTrue files → (b : ℕ) → b < 16 → FitBytes (def_at history old.table) b (own_bytes (file_of old.files b))) → MayCommitOne files seals k history new
commits-one files seals k history old new p out made agrees fit = record {
  made = subst (λ t. t < length (tables_left history)) (sym p.table) made;
  out = subst (λ t. slice_get (pool (entries_of history) t) new.number ≡ Some (Out k)) (sym p.table) (subst (λ n. slice_get (pool (entries_of history) old.table) n ≡ Some (Out k)) (sym p.number) out);
  agrees = record {
    base = λ b lt. (p.files b lt).base ∙ agrees.base b lt ∙ ap (length_left history) (sym (ids b));
    bytes = λ t b lt. base-same files (file_of old.files b) (file_of new.files b) seals (p.files b lt) (both files seals t) ∙ agrees.bytes t b lt ∙ ap (bytes_left history) (sym (ids b));
  };
  sealed = λ b lt. (p.files b lt).sealed;
  blocks = λ told b lt. subst (λ t. FitBytes (def_at history t) b (own_bytes (file_of new.files b))) (sym p.table)
      (subst (λ bytes. FitBytes (def_at history old.table) b bytes) (sym (own-same files (file_of old.files b) (file_of new.files b) seals (p.files b lt) told)) (fit told b lt));
}
  where
    ids : (b : ℕ) → id_of new.table new.number b ≡ id_of old.table old.number b
    ids b = ap (λ t. id_of t new.number b) p.table ∙ ap (λ n. id_of old.table n b) p.number

module _ (files seals : Bool) (k : ℕ) (history : List Noted) (old new : List LaneState) (x : InHand files seals k history old)
    (count : length new ≡ length old) (ready : (n : ℕ) → n < length old → IsPrepared files seals (lane_at old n) (lane_at new n)) where
  there : (i : ℕ) → i < length new → i < length old
  there i h = omega (arith, h, count)

  pub may-commit : 0 < length new → MayCommit files seals k history new
  may-commit some = record {
    some = some;
    each = λ i h. commits-one files seals k history (lane_at old i) (lane_at new i) (ready i (there i h)) (x.out i (there i h)) (x.made i (there i h)) (x.agrees i (there i h)) (x.fit i (there i h));
    once = λ i j lt h. inl (λ e. omega (
      arith,
      lt,
      x.apart i j (omega (arith, lt, h, count)) (there j h)
          (sym (ready i (omega (arith, lt, h, count))).table ∙ e ∙ (ready j (there j h)).table),
    ));
    all = λ t n at. let h = x.all t n at in
        (h.0, omega (arith, h.1, count), (ready h.0 h.1).table ∙ h.2, (ready h.0 h.1).number ∙ h.3);
    none_swept = x.none_swept;
  }

  -- sealed, they are those in hand still
  pub hand-ready : InHand files seals k history new
  hand-ready = record {
    out = λ i h. (commits-one files seals k history (lane_at old i) (lane_at new i) (ready i (there i h)) (x.out i (there i h)) (x.made i (there i h)) (x.agrees i (there i h)) (x.fit i (there i h))).out;
    made = λ i h. (commits-one files seals k history (lane_at old i) (lane_at new i) (ready i (there i h)) (x.out i (there i h)) (x.made i (there i h)) (x.agrees i (there i h)) (x.fit i (there i h))).made;
    agrees = λ i h. (commits-one files seals k history (lane_at old i) (lane_at new i) (ready i (there i h)) (x.out i (there i h)) (x.made i (there i h)) (x.agrees i (there i h)) (x.fit i (there i h))).agrees;
    fit = λ i h told b lt. (commits-one files seals k history (lane_at old i) (lane_at new i) (ready i (there i h)) (x.out i (there i h)) (x.made i (there i h)) (x.agrees i (there i h)) (x.fit i (there i h))).blocks told b lt;
    apart = λ i j h g e. x.apart i j (there i h) (there j g) (sym (ready i (there i h)).table ∙ e ∙ (ready j (there j g)).table);
    all = λ t n at. let h = x.all t n at in
        (h.0, omega (arith, h.1, count), (ready h.0 h.1).table ∙ h.2, (ready h.0 h.1).number ∙ h.3);
    none_swept = x.none_swept;
  }
