-- A Commit keeps what holds of a catalogue.
use Rattle.std.proofs.Common.{◌≡◌, ◌≢◌, ◌⊎◌, ℕ, zero, suc, ◌+◌, ◌-◌, ◌<◌, ◌≤◌, ◌&&◌, ◌||◌, eqb, Bool, true, false, not, cond, List, [], ◌∷◌, ◌++◌, length, map, take, drop, flat_map, Option, Some, None, IsTrue, slice_get, get_or, refl, sym, ◌∙◌, ap, subst, arith, inl, inr, eq-eqb, length-append}
use Rattle.std.specs.List.{All, AllByRecursion, list_any}
use Rattle.std.proofs.lemmas.Bool.{eqb-true}
use Rattle.std.proofs.lemmas.Bool.Decides.{nat_tests}
use Rattle.std.proofs.lemmas.Cmp.{nat_eq_equiv}
use Rattle.std.proofs.lemmas.List.{append-nil, map-append, take_all, take-append-drop, take-append-le, length-drop, length-map, ext_get_or, get_or_past}
use Rattle.hq_value.specs.declared.entry.Entry.{Entry}
use Rattle.hq_value.specs.declared.entry.FileId.{FileId}
use Rattle.hq_value.specs.declared.entry.EntryKind.TheVariants as entry
use Rattle.hq_value.specs.Tables.{Definition, are_distinct}
use Rattle.hq_log.specs.declared.place.Place.{Place}
use Rattle.hq_log.specs.declared.place.Place.TheVariants as place
use Rattle.hq_log.specs.Places.{is_out_to, is_swept_by}
use Rattle.hq_log.specs.Pools.{pool, committed}
use Rattle.hq_log.specs.Legal.{IsAt, IsLawful}
use Rattle.hq_log.proofs.Logs.{IsLegal-push}
use Rattle.hq_store.specs.FileStep.{SealState}
use Rattle.hq_lane.specs.Lanes.{LaneState, id_of, file_of}
use Rattle.hq_lane.specs.BucketFiles.{BucketState, file_bytes, base_bytes, own_bytes}
use Rattle.hq_history.specs.declared.noted.Noted.{Noted}
use Rattle.hq_history.specs.declared.noted.Growth.{Growth}
use Rattle.hq_history.specs.declared.noted.Deposit.TheVariants.{Published}
use Rattle.hq_history.specs.History.{entries_of}
use Rattle.hq_history.specs.Deposits.{tables_left, is_same_file, length_left, length_after, bytes_left, bytes_of, IsGrowth, IsHistory}
use Rattle.hq_history.proofs.Files.{IsHistory-push, length_left-push, bytes_left-push}
use Rattle.hq_pool.specs.declared.slot.Slot.{Slot}
use Rattle.hq_pool.specs.Slots as slots
use Rattle.hq_snap.specs.Snaps.{seal_bytes}
use Rattle.hq_snap.proofs.Elements.{below_or}
use Rattle.hq_catalog.specs.declared.kept.Grown.{Grown}
use Rattle.hq_catalog.specs.Asks.{MayCommit, MayCommitOne, lane_at}
use Rattle.hq_catalog.specs.Files.{def_at, is_among, last_change, FitBytes}
use Rattle.hq_catalog.specs.Lanes.{growth_of, growth_if_any, growths_in_lane, growths_of}
use Rattle.hq_catalog.specs.State.{TableState, CatState, table_in, unmade, no_slots, places_in, seal_of}
use Rattle.hq_catalog.specs.History.{history, deposit_at, is_grown_at}
use Rattle.hq_catalog.specs.History as past
use Rattle.hq_catalog.specs.Stands.{HasSeal, IsOwnGrowth, AreOwnSteps}
use Rattle.hq_catalog.specs.CatStep.{noted}
use Rattle.hq_catalog.specs.Kept.{IsCatalogue, IsPast, slot_at}
use Rattle.hq_catalog.specs.Commits.{grows, is_lane, the_lane, the_file, seal_by, place_by, home_by, grown_from, grown_if_any, grown_in_lane, grown_of, AreApart, IsFresh, HasIds, IsWell, AreTaken, place_at}
use Rattle.hq_catalog.proofs.History.{SameGrowths, history-entries, history-push, length-history, deposits_stay, last_change-push, grown_now, further_changes}
use Rattle.hq_catalog.proofs.Quiet.{Keeps, own_pushed, marks_kept}
use Rattle.hq_catalog.proofs.Moves.{with_parts, entry_by}
use Rattle.hq_catalog.proofs.Others.{pool-push, tables-push}
use Rattle.hq_catalog.proofs.Growths.{Does, has_grown, lane_is, GrowOnce, in_lanes, once_lanes, each_growth_of}

-- what the history says of a file that a session has in hand
pub record Follows (told : Bool) (h : List Noted) (file : FileId) (f : BucketState) : Type 0 where
  pub base : f.base ≡ length_left h file
  pub bytes : IsTrue told → base_bytes f ≡ bytes_left h file
  pub order : f.base ≤ f.good
  pub fresh : grows f ≡ true → IsFresh told f
  pub id : grows f ≡ true → f.id ≡ file

-- the committed bytes and those behind them are all
all_bytes : (f : BucketState) → length (file_bytes f.file) ≡ f.good → base_bytes f ++ own_bytes f ≡ file_bytes f.file
all_bytes f long = ap (λ l. base_bytes f ++ drop f.base l) (take_all f.good (file_bytes f.file) (omega (arith, long))) ∙ take-append-drop f.base (file_bytes f.file)

own_length : (f : BucketState) → length (file_bytes f.file) ≡ f.good → length (own_bytes f) ≡ f.good - f.base
own_length f long = ap (λ (l : List ℕ). length (drop f.base l)) (take_all f.good (file_bytes f.file) (omega (arith, long))) ∙ length-drop f.base (file_bytes f.file) ∙ ap (λ k. k - f.base) long

-- a file of which nothing was added
same_seal : (told : Bool) (h : List Noted) (n : Noted) (gs : List Growth) (file : FileId) (s : Option SealState) → length_after file (length_left h file) gs ≡ length_left h file
    → bytes_of file gs ≡ [] → is_among file gs ≡ false → HasSeal told h file s
    → length_left (h ++ n ∷ []) file ≡ length_after file (length_left h file) gs → bytes_left (h ++ n ∷ []) file ≡ bytes_left h file ++ bytes_of file gs
    → last_change (h ++ n ∷ []) file ≡ cond (is_among file gs) (suc (length h)) (last_change h file) → HasSeal told (h ++ n ∷ []) file s
same_seal told h n gs file s len bytes among has a b c =
    let same : last_change (h ++ n ∷ []) file ≡ last_change h file = c ∙ ap (λ y. cond y (suc (length h)) (last_change h file)) among in
    record {
      len = has.len ∙ sym len ∙ sym a;
      bytes = λ t. has.bytes t ∙ sym (b ∙ ap (λ l. bytes_left h file ++ l) bytes ∙ append-nil (bytes_left h file));
      some = λ lt. has.some (subst (λ k. 0 < k) same lt);
      none = λ e. has.none (sym same ∙ e);
      id = has.id;
    }

-- the entry of the Commit
abbrev entry_of : ℕ → ℕ → List Growth → Noted
entry_of k m gs = noted k m entry.Commit (Published gs)

module _ (told : Bool) (h : List Noted) (k m : ℕ) (gs : List Growth) (file : FileId) where
  seal_file : (f : BucketState) (b : Bool) → grows f ≡ b → (grows f ≡ true → Follows told h file f) → Does told file (Some f) gs → (s : Option SealState) → HasSeal told h file s → HasSeal told (h ++ entry_of k m gs ∷ []) file (cond b f.fresh s)
  seal_file f false e follows does s has = same_seal told h (entry_of k m gs) gs file s
      (does.len (length_left h file) ∙ ap (λ y. cond y f.good (length_left h file)) e)
      (does.bytes ∙ ap (λ y. cond y (cond told (own_bytes f) []) []) e) (does.among ∙ e) has
      (length_left-push h (entry_of k m gs) file) (bytes_left-push h (entry_of k m gs) file) (last_change-push h (entry_of k m gs) file)
  seal_file f true e follows does s has =
      let follow = follows e in
      let fr = follow.fresh e in
      let last : last_change (h ++ entry_of k m gs ∷ []) file ≡ suc (length h) = last_change-push h (entry_of k m gs) file ∙ ap (λ y. cond y (suc (length h)) (last_change h file)) (does.among ∙ e) in
      subst (HasSeal told (h ++ entry_of k m gs ∷ []) file) (sym fr.is) (record {
        len = fr.len ∙ sym (length_left-push h (entry_of k m gs) file ∙ does.len (length_left h file) ∙ ap (λ y. cond y f.good (length_left h file)) e);
        bytes = λ t. fr.bytes t ∙ sym (all_bytes f (fr.long t)) ∙ ap (λ l. l ++ own_bytes f) (follow.bytes t)
            ∙ sym (bytes_left-push h (entry_of k m gs) file ∙ ap (λ l. bytes_left h file ++ l) (does.bytes ∙ ap (λ y. cond y (cond told (own_bytes f) []) []) e ∙ ap (λ y. cond y (own_bytes f) []) t));
        some = λ lt. refl;
        none = λ z. absurd (omega (arith, z, last));
        id = λ z same. (let w : z ≡ fr.seal = cc in ap (λ (x : SealState). x.id) w ∙ fr.id ∙ follow.id e);
      })

  -- the seal of each file after the Commit
  pub seal_after : (o : Option BucketState) → ((f : BucketState) → o ≡ Some f → grows f ≡ true → Follows told h file f) → Does told file o gs → (s : Option SealState) → HasSeal told h file s → HasSeal told (h ++ entry_of k m gs ∷ []) file (seal_by o s)
  seal_after None follows does s has = same_seal told h (entry_of k m gs) gs file s (does.len (length_left h file)) does.bytes does.among has
      (length_left-push h (entry_of k m gs) file) (bytes_left-push h (entry_of k m gs) file) (last_change-push h (entry_of k m gs) file)
  seal_after (Some f) follows does s has = seal_file f (grows f) refl (follows f refl) does s has

  place_is : (o : Option BucketState) (x : ℕ) → cond (has_grown o) (suc (length h)) x ≡ place_by (suc (length h)) o x
  place_is None x = refl
  place_is (Some f) x = refl

  -- when it changed
  pub change_after : (o : Option BucketState) → Does told file o gs → last_change (h ++ entry_of k m gs ∷ []) file ≡ place_by (suc (length h)) o (last_change h file)
  change_after o does = last_change-push h (entry_of k m gs) file ∙ ap (λ y. cond y (suc (length h)) (last_change h file)) does.among ∙ place_is o (last_change h file)

-- facts of each lane
pub all_lanes : (P : LaneState → Type 0) (ls : List LaneState) → ((i : ℕ) → i < length ls → P (lane_at ls i)) → AllByRecursion P ls
all_lanes P [] h = tt
all_lanes P (l ∷ ls) h = (h 0 (omega arith), all_lanes P ls (λ i lt. h (suc i) (omega arith)))

both_lanes : (P Q : LaneState → Type 0) (ls : List LaneState) → AllByRecursion P ls → AllByRecursion Q ls → AllByRecursion (λ l. P l × Q l) ls
both_lanes P Q [] p q = tt
both_lanes P Q (l ∷ ls) p q = ((p.0, q.0), both_lanes P Q ls p.1 q.1)

weaker : (P Q : LaneState → Type 0) (ls : List LaneState) → ((l : LaneState) → P l → Q l) → AllByRecursion P ls → AllByRecursion Q ls
weaker P Q [] f p = tt
weaker P Q (l ∷ ls) f p = (f l p.0, weaker P Q ls f p.1)

found_by : (P : LaneState → Type 0) (t n : ℕ) (x l : LaneState) (o : Option LaneState) → P x → (o ≡ Some l → P l × (l.table ≡ t) × (l.number ≡ n)) → (y : Bool) → is_lane t n x ≡ y → cond y (Some x) o ≡ Some l
    → P l × (l.table ≡ t) × (l.number ≡ n)
found_by P t n x l o p rest true i e = (let s : x ≡ l = cc in subst (λ (z : LaneState). P z × (z.table ≡ t) × (z.number ≡ n)) s (p, (lane_is t n x i).0, (lane_is t n x i).1))
found_by P t n x l o p rest false i e = rest e

found_lane : (P : LaneState → Type 0) (ls : List LaneState) (t n : ℕ) (l : LaneState) → AllByRecursion P ls → the_lane ls t n ≡ Some l → P l × (l.table ≡ t) × (l.number ≡ n)
found_lane P [] t n l h e = cc
found_lane P (x ∷ ls) t n l h e = found_by P t n x l (the_lane ls t n) h.0 (λ f. found_lane P ls t n l h.1 f) (is_lane t n x) refl e

pub is_itself : (l : LaneState) → is_lane l.table l.number l ≡ true
is_itself l = ap (λ b. b && eqb l.number l.number) (eq-eqb l.table l.table refl) ∙ eq-eqb l.number l.number refl

no_other : (ls : List LaneState) (t n : ℕ) → ((j : ℕ) → j < length ls → is_lane t n (lane_at ls j) ≡ false) → the_lane ls t n ≡ None
no_other [] t n h = refl
no_other (l ∷ ls) t n h = ap (λ b. cond b (Some l) (the_lane ls t n)) (h 0 (omega arith)) ∙ no_other ls t n (λ j lt. h (suc j) (omega arith))

false_by : (b : Bool) → (b ≡ true → ⊥) → b ≡ false
false_by true h = absurd (h refl)
false_by false h = refl

-- no lane is given twice
pub apart : (ls : List LaneState) → ((i j : ℕ) → i < j → j < length ls → ((lane_at ls i).table ≢ (lane_at ls j).table) ⊎ ((lane_at ls i).number ≢ (lane_at ls j).number)) → AreApart ls
apart [] h = tt
apart (l ∷ ls) h = (
  no_other ls l.table l.number (λ j lt. false_by (is_lane l.table l.number (lane_at ls j)) (λ e. let is = lane_is l.table l.number (lane_at ls j) e in
      elim (h 0 (suc j) (omega arith) (omega arith)) [ inl d ↦ d (sym is.0) | inr d ↦ d (sym is.1) ])),
  apart ls (λ i j lt within. h (suc i) (suc j) (omega arith) (omega arith)),
)

none_true : (b : Bool) (l : LaneState) (o : Option LaneState) → cond b (Some l) o ≡ None → (b ≡ false) × (o ≡ None)
none_true true l o e = cc
none_true false l o e = (refl, e)

pub lane_symm : (a b : LaneState) → is_lane a.table a.number b ≡ is_lane b.table b.number a
lane_symm a b = λ i. nat_eq_equiv.symm b.table a.table i && nat_eq_equiv.symm b.number a.number i

not_first : (l : LaneState) (ls : List LaneState) → the_lane ls l.table l.number ≡ None → AllByRecursion (λ (x : LaneState). is_lane x.table x.number l ≡ false) ls
not_first l [] e = tt
not_first l (x ∷ ls) e = (let r = none_true (is_lane l.table l.number x) x (the_lane ls l.table l.number) e in (lane_symm x l ∙ r.0, not_first l ls r.1))

-- each lane is found
finds : (ls : List LaneState) → AreApart ls → AllByRecursion (λ (l : LaneState). the_lane ls l.table l.number ≡ Some l) ls
finds [] a = tt
finds (l ∷ ls) a = (
  ap (λ b. cond b (Some l) (the_lane ls l.table l.number)) (is_itself l),
  weaker (λ x. (is_lane x.table x.number l ≡ false) × (the_lane ls x.table x.number ≡ Some x)) (λ x. the_lane (l ∷ ls) x.table x.number ≡ Some x) ls
      (λ x h. ap (λ b. cond b (Some l) (the_lane ls x.table x.number)) h.0 ∙ h.1)
      (both_lanes (λ x. is_lane x.table x.number l ≡ false) (λ x. the_lane ls x.table x.number ≡ Some x) ls (not_first l ls a.0) (finds ls a.1)),
)

there_is : (ls : List LaneState) (t n i : ℕ) → i < length ls → (lane_at ls i).table ≡ t → (lane_at ls i).number ≡ n → the_lane ls t n ≡ None → ⊥
there_is [] t n i lt e f none = absurd (omega arith)
there_is (l ∷ ls) t n zero lt e f none =
    let r = none_true (is_lane t n l) l (the_lane ls t n) none in
    let y : is_lane t n l ≡ true = ap (λ b. b && eqb l.number n) (eq-eqb l.table t e) ∙ eq-eqb l.number n f in
    absurd (let z : true ≡ false = sym y ∙ r.0 in cc)
there_is (l ∷ ls) t n (suc i) lt e f none = there_is ls t n i (omega arith) e f (none_true (is_lane t n l) l (the_lane ls t n) none).1

-- places of lanes
pub get_place : (ss : List (Slot LaneState)) (n : ℕ) → get_or (slots.places ss) n place.Unborn ≡ slots.place_of (slot_at ss n)
get_place [] n = refl
get_place (s ∷ ss) zero = refl
get_place (s ∷ ss) (suc n) = get_place ss n

get_committed : (k : ℕ) (ps : List Place) (n : ℕ) → get_or (map (committed k) ps) n place.Unborn ≡ committed k (get_or ps n place.Unborn)
get_committed k [] n = refl
get_committed k (p ∷ ps) zero = refl
get_committed k (p ∷ ps) (suc n) = get_committed k ps n

still_there : (k : ℕ) (p : Place) → (p ≡ place.Out k → ⊥) → committed k p ≡ p
still_there k place.Unborn d = refl
still_there k place.Clean d = refl
still_there k place.Dirty d = refl
still_there k (place.Out j) d = ap (λ b. cond b place.Clean (place.Out j)) (false_by (eqb k j) (λ e. d (ap place.Out (sym (eqb-true k j e)))))
still_there k (place.Sweeping j) d = refl

comes_home : (k : ℕ) → committed k (place.Out k) ≡ place.Clean
comes_home k = ap (λ b. cond b place.Clean (place.Out k)) (eq-eqb k k refl)

none_committed : (k : ℕ) → map (committed k) (slots.places no_slots) ≡ slots.places no_slots
unfolding no_slots
none_committed k = refl

get_at : (ps : List Place) (n : ℕ) (p : Place) → slice_get ps n ≡ Some p → get_or ps n place.Unborn ≡ p
get_at [] n p e = cc
get_at (q ∷ ps) zero p e = cc
get_at (q ∷ ps) (suc n) p e = get_at ps n p e

pub at_get : (ps : List Place) (n : ℕ) → n < length ps → slice_get ps n ≡ Some (get_or ps n place.Unborn)
at_get [] n lt = absurd (omega arith)
at_get (q ∷ ps) zero lt = refl
at_get (q ∷ ps) (suc n) lt = at_get ps n (omega arith)

or_true : (b c : Bool) → c ≡ true → (b || c) ≡ true
or_true true c e = refl
or_true false c e = e

any_out : (k : ℕ) (ps : List Place) (n : ℕ) → slice_get ps n ≡ Some (place.Out k) → list_any (is_out_to k) ps ≡ true
any_out k [] n e = cc
any_out k (p ∷ ps) zero e = (let s : p ≡ place.Out k = cc in ap (λ q. is_out_to k q || list_any (is_out_to k) ps) s ∙ ap (λ b. b || list_any (is_out_to k) ps) (eq-eqb k k refl))
any_out k (p ∷ ps) (suc n) e = or_true (is_out_to k p) (list_any (is_out_to k) ps) (any_out k ps n e)

-- deposits
distinct_by : (gs : List Growth) → GrowOnce gs → IsTrue (are_distinct is_same_file (map (λ (g : Growth). g.file) gs))
distinct_by [] h = refl
distinct_by (g ∷ gs) h =
    ap (λ b. not b && are_distinct is_same_file (map (λ (x : Growth). x.file) gs)) (turn gs ∙ h.0) ∙ distinct_by gs h.1
  where
    same : (a b : FileId) → is_same_file a b ≡ is_same_file b a
    same a b = λ i. (nat_eq_equiv.symm a.table b.table i && nat_eq_equiv.symm a.lane b.lane i) && nat_eq_equiv.symm a.bucket b.bucket i

    turn : (xs : List Growth) → list_any (is_same_file g.file) (map (λ (x : Growth). x.file) xs) ≡ is_among g.file xs
    turn [] = refl
    turn (x ∷ xs) = λ i. same g.file x.file i || turn xs i

all_from : (P : Growth → Type 0) (gs : List Growth) → AllByRecursion P gs → All P gs
all_from P [] h k d lt = absurd (omega arith)
all_from P (g ∷ gs) h zero d lt = h.0
all_from P (g ∷ gs) h (suc k) d lt = all_from P gs h.1 k d (omega arith)

length_told : (told : Bool) (f : BucketState) → (IsTrue told → length (own_bytes f) ≡ f.good - f.base) → length (cond told (own_bytes f) []) ≡ cond told (f.good - f.base) 0
length_told true f h = h refl
length_told false f h = refl

-- what the catalogue keeps gives the growths again
map_if : (told : Bool) (m : ℕ) (ts : List TableState) (f : BucketState) (b : Bool) → (b ≡ true → past.growth_of told ts (grown_from m f) ≡ growth_of told f)
    → map (past.growth_of told ts) (cond b (grown_from m f ∷ []) []) ≡ cond b (growth_of told f ∷ []) []
map_if told m ts f true h = ap (λ (g : Growth). g ∷ []) (h refl)
map_if told m ts f false h = refl

map_files : (told : Bool) (m : ℕ) (ts : List TableState) (fs : List BucketState) → ((i : ℕ) → i < length fs → grows (file_of fs i) ≡ true → past.growth_of told ts (grown_from m (file_of fs i)) ≡ growth_of told (file_of fs i))
    → map (past.growth_of told ts) (flat_map (grown_if_any m) fs) ≡ flat_map (growth_if_any told) fs
map_files told m ts [] h = refl
map_files told m ts (f ∷ fs) h = map-append (past.growth_of told ts) (grown_if_any m f) (flat_map (grown_if_any m) fs)
    ∙ ap (λ l. l ++ map (past.growth_of told ts) (flat_map (grown_if_any m) fs)) (map_if told m ts f (grows f) (h 0 (omega arith)))
    ∙ ap (λ l. growth_if_any told f ++ l) (map_files told m ts fs (λ i lt. h (suc i) (omega arith)))

abbrev Settled : Bool → ℕ → List TableState → LaneState → Type 0
Settled told m ts l = (i : ℕ) → i < length l.files → grows (file_of l.files i) ≡ true → past.growth_of told ts (grown_from m (file_of l.files i)) ≡ growth_of told (file_of l.files i)

map_lanes : (told : Bool) (m : ℕ) (ts : List TableState) (ls : List LaneState) → AllByRecursion (Settled told m ts) ls → map (past.growth_of told ts) (grown_of m ls) ≡ growths_of told ls
map_lanes told m ts [] h = refl
map_lanes told m ts (l ∷ ls) h = map-append (past.growth_of told ts) (grown_in_lane m l) (grown_of m ls)
    ∙ ap (λ x. x ++ map (past.growth_of told ts) (grown_of m ls)) (map_files told m ts l.files h.0) ∙ ap (λ x. growths_in_lane told l ++ x) (map_lanes told m ts ls h.1)

-- a fact of each growth that is kept
each_if : (P : Grown → Type 0) (m : ℕ) (f : BucketState) (b : Bool) → (b ≡ true → P (grown_from m f)) → AllByRecursion P (cond b (grown_from m f ∷ []) [])
each_if P m f true h = (h refl, tt)
each_if P m f false h = tt

all_grown : (P : Grown → Type 0) (xs ys : List Grown) → AllByRecursion P xs → AllByRecursion P ys → AllByRecursion P (xs ++ ys)
all_grown P [] ys a b = b
all_grown P (x ∷ xs) ys a b = (a.0, all_grown P xs ys a.1 b)

each_kept : (P : Grown → Type 0) (m : ℕ) (fs : List BucketState) → ((i : ℕ) → i < length fs → grows (file_of fs i) ≡ true → P (grown_from m (file_of fs i))) → AllByRecursion P (flat_map (grown_if_any m) fs)
each_kept P m [] h = tt
each_kept P m (f ∷ fs) h = all_grown P (grown_if_any m f) (flat_map (grown_if_any m) fs) (each_if P m f (grows f) (h 0 (omega arith))) (each_kept P m fs (λ i lt. h (suc i) (omega arith)))

each_kept_of : (P : Grown → Type 0) (m : ℕ) (ls : List LaneState) → AllByRecursion (λ (l : LaneState). (i : ℕ) → i < length l.files → grows (file_of l.files i) ≡ true → P (grown_from m (file_of l.files i))) ls → AllByRecursion P (grown_of m ls)
each_kept_of P m [] h = tt
each_kept_of P m (l ∷ ls) h = all_grown P (grown_in_lane m l) (grown_of m ls) (each_kept P m l.files h.0) (each_kept_of P m ls h.1)

first_true : (a b : Bool) → (a && b) ≡ true → a ≡ true
first_true true b e = refl
first_true false b e = e

cond_same : {A : Type 0} (b : Bool) (x y z : A) → (b ≡ true → x ≡ y) → cond b x z ≡ cond b y z
cond_same true x y z h = h refl
cond_same false x y z h = refl

-- only a file that is there grows
bucket_within : (fs : List BucketState) (b : ℕ) → grows (file_of fs b) ≡ true → b < length fs
bucket_within [] b e = cc
bucket_within (f ∷ fs) zero e = omega arith
bucket_within (f ∷ fs) (suc b) e = (let h = bucket_within fs b e in omega arith)

abbrev grown_with : Bool → BucketState → Option SealState → Growth
grown_with told f s = record { file = f.id; before = f.base; after = f.good; bytes = cond told (drop f.base (take f.good (seal_bytes s))) [] }

pub defs_by : (xs ys : List TableState) → length xs ≡ length ys → ((t : ℕ) → (table_in xs t).def ≡ (table_in ys t).def) → map (λ (t : TableState). t.def) xs ≡ map (λ (t : TableState). t.def) ys
defs_by [] [] e h = refl
defs_by [] (y ∷ ys) e h = absurd (omega (arith, e))
defs_by (x ∷ xs) [] e h = absurd (omega (arith, e))
defs_by (x ∷ xs) (y ∷ ys) e h = ap (λ (d : Definition). d ∷ map (λ (t : TableState). t.def) xs) (h 0) ∙ ap (λ (ds : List Definition). y.def ∷ ds) (defs_by xs ys (omega (arith, e)) (λ t. h (suc t)))

abbrev with_bytes : BucketState → List ℕ → Growth
with_bytes f l = record { file = f.id; before = f.base; after = f.good; bytes = l }

module _ (files seals : Bool) (c : CatState) (k m : ℕ) (ls : List LaneState) (ts : List TableState) (ok : IsCatalogue (files && seals) c)
    (may : MayCommit files seals k (history (files && seals) c) ls) (wells : AllByRecursion (IsWell (files && seals)) ls) (taken : AreTaken (files && seals) (length c.log) ls c.tables ts) where
  abbrev told : Bool
  told = files && seals

  abbrev h : List Noted
  h = history told c

  abbrev gs : List Growth
  gs = growths_of told ls

  abbrev n : Noted
  n = entry_of k m gs

  abbrev Given : LaneState → Type 0
  Given l = MayCommitOne files seals k h l × IsWell told l

  lanes_given : AllByRecursion Given ls
  lanes_given = both_lanes (MayCommitOne files seals k h) (IsWell told) ls (all_lanes (MayCommitOne files seals k h) ls may.each) wells

  are_apart : AreApart ls
  are_apart = apart ls may.once

  does : (t i b : ℕ) → Does told (id_of t i b) (the_file (the_lane ls t i) b) gs
  does t i b = in_lanes told t i b ls (weaker (IsWell told) HasIds ls (λ l w. w.ids) wells) are_apart

  follow_lane : (l : LaneState) (b : ℕ) → MayCommitOne files seals k h l → IsWell told l → grows (file_of l.files b) ≡ true → Follows told h (id_of l.table l.number b) (file_of l.files b)
  follow_lane l b may_one well e =
      let within : b < length l.files = bucket_within l.files b e in
      let lt : b < 16 = omega (arith, within, well.sixteen) in
      record { base = may_one.agrees.base b lt; bytes = λ t. may_one.agrees.bytes t b lt; order = well.order b; fresh = well.fresh b; id = λ _. well.ids b within }

  follow_by : (t i b : ℕ) (o : Option LaneState) → the_lane ls t i ≡ o → (f : BucketState) → the_file o b ≡ Some f → grows f ≡ true → Follows told h (id_of t i b) f
  follow_by t i b None is f e g = cc
  follow_by t i b (Some l) is f e g =
      let r = found_lane Given ls t i l lanes_given is in
      let same : file_of l.files b ≡ f = cc in
      subst (λ x. Follows told h (id_of x i b) f) r.1 (subst (λ x. Follows told h (id_of l.table x b) f) r.2
      (subst (Follows told h (id_of l.table l.number b)) same (follow_lane l b r.0.0 r.0.1 (ap grows same ∙ g))))

  new_seal : (t i b : ℕ) → HasSeal told (h ++ n ∷ []) (id_of t i b) (seal_of ts (id_of t i b))
  new_seal t i b = subst (HasSeal told (h ++ n ∷ []) (id_of t i b)) (sym (taken.seals t i b))
      (seal_after told h k m gs (id_of t i b) (the_file (the_lane ls t i) b) (λ f e g. follow_by t i b (the_lane ls t i) refl f e g) (does t i b) (seal_of c.tables (id_of t i b)) (ok.seals t i b))

  more_bytes : (t i b : ℕ) → IsTrue told → seal_bytes (seal_of ts (id_of t i b)) ≡ seal_bytes (seal_of c.tables (id_of t i b)) ++ bytes_of (id_of t i b) gs
  more_bytes t i b e = (new_seal t i b).bytes e ∙ bytes_left-push h n (id_of t i b) ∙ ap (λ l. l ++ bytes_of (id_of t i b) gs) (sym ((ok.seals t i b).bytes e))

  -- the seal of a file that has grown
  seal_now : (l : LaneState) (b : ℕ) → IsWell told l → the_lane ls l.table l.number ≡ Some l → b < length l.files → (e : grows (file_of l.files b) ≡ true) → (w : IsFresh told (file_of l.files b)) → seal_of ts (file_of l.files b).id ≡ Some w.seal
  seal_now l b well is lt e w =
      ap (seal_of ts) (well.ids b lt) ∙ taken.seals l.table l.number b ∙ ap (λ o. seal_by (the_file o b) (seal_of c.tables (id_of l.table l.number b))) is
      ∙ ap (λ y. cond y (file_of l.files b).fresh (seal_of c.tables (id_of l.table l.number b))) e ∙ w.is

  abbrev Found : LaneState → Type 0
  Found l = IsWell told l × (the_lane ls l.table l.number ≡ Some l)

  lanes_found : AllByRecursion Found ls
  lanes_found = both_lanes (IsWell told) (λ l. the_lane ls l.table l.number ≡ Some l) ls wells (finds ls are_apart)

  settled_one : (l : LaneState) → Found l → Settled told (length c.log) ts l
  settled_one l found i lt e =
      let f = file_of l.files i in
      let w = found.0.fresh i e in
      let s = seal_now l i found.0 found.1 lt e w in
      ap (grown_with told f) s ∙ ap (with_bytes f)
      (cond_same told (drop f.base (take f.good w.seal.bytes)) (own_bytes f) [] (λ t. ap (λ l. drop f.base (take f.good l)) (w.bytes t)))

  settled : AllByRecursion (Settled told (length c.log) ts) ls
  settled = weaker Found (Settled told (length c.log) ts) ls settled_one lanes_found

  now : AllByRecursion (λ (g : Grown). g.place ≡ length c.log) (grown_of (length c.log) ls)
  now = each_kept_of (λ (g : Grown). g.place ≡ length c.log) (length c.log) ls (weaker (IsWell told) (λ l. (i : ℕ) → i < length l.files → grows (file_of l.files i) ≡ true → length c.log ≡ length c.log) ls (λ l w i lt e. refl) wells)

  new_past : AllByRecursion (IsPast told ts (length c.log + 1)) (grown_of (length c.log) ls)
  new_past = each_kept_of (IsPast told ts (length c.log + 1)) (length c.log) ls
      (weaker Found (λ l. (i : ℕ) → i < length l.files → grows (file_of l.files i) ≡ true → IsPast told ts (length c.log + 1) (grown_from (length c.log) (file_of l.files i))) ls
      (λ l found i lt e. let w = found.0.fresh i e in record {
        past = omega arith;
        under = λ t. subst (λ s. (file_of l.files i).good ≤ length (seal_bytes s)) (sym (seal_now l i found.0 found.1 lt e w)) (omega (arith, ap (λ (b : List ℕ). length b) (w.bytes t), w.long t));
      }) lanes_found)

  old_past : (xs : List Grown) → AllByRecursion (IsPast told c.tables (length c.log)) xs → AllByRecursion (IsPast told ts (length c.log + 1)) xs
  old_past [] p = tt
  old_past (g ∷ xs) p = (
    record {
      past = omega (arith, p.0.past);
      under = λ t. omega (arith, p.0.under t, ap (λ (b : List ℕ). length b) (more_bytes g.file.table g.file.lane g.file.bucket t), length-append (seal_bytes (seal_of c.tables g.file)) (bytes_of g.file gs));
    },
    old_past xs p.1,
  )

  abbrev kept_with : Grown → List ℕ → Growth
  kept_with g l = record { file = g.file; before = g.before; after = g.after; bytes = l }

  same_old : (xs : List Grown) → AllByRecursion (IsPast told c.tables (length c.log)) xs → SameGrowths told c.tables ts xs
  same_old [] p = tt
  same_old (g ∷ xs) p = (
    ap (kept_with g) (cond_same told (drop g.before (take g.after (seal_bytes (seal_of ts g.file)))) (drop g.before (take g.after (seal_bytes (seal_of c.tables g.file)))) []
        (λ t. ap (λ l. drop g.before l) (ap (take g.after) (more_bytes g.file.table g.file.lane g.file.bucket t) ∙ take-append-le g.after (seal_bytes (seal_of c.tables g.file)) (bytes_of g.file gs) (p.0.under t)))),
    same_old xs p.1,
  )

  growth_one : (l : LaneState) → Given l → (i : ℕ) → i < length l.files → grows (file_of l.files i) ≡ true → IsGrowth told h (growth_of told (file_of l.files i))
  growth_one l given i lt e =
      let f = file_of l.files i in
      let id = given.1.ids i lt in
      let within : i < 16 = omega (arith, lt, given.1.sixteen) in
      let w = given.1.fresh i e in
      record {
        made = subst (λ (x : FileId). x.table < length (tables_left h)) (sym id) given.0.made;
        bucket = subst (λ (x : FileId). x.bucket < 16) (sym id) within;
        begins = given.0.agrees.base i within ∙ ap (length_left h) (sym id);
        grows = (let x = e in grind (arith, nat_tests));
        bytes = length_told told f (λ t. own_length f (w.long t));
      }

  own_one : (l : LaneState) → Given l → (i : ℕ) → i < length l.files → grows (file_of l.files i) ≡ true → IsOwnGrowth told h k (growth_of told (file_of l.files i))
  own_one l given i lt e =
      let f = file_of l.files i in
      let id = given.1.ids i lt in
      let within : i < 16 = omega (arith, lt, given.1.sixteen) in
      record {
        lane = subst (λ (x : FileId). IsAt (entries_of h) x.table x.lane (place.Out k)) (sym id) given.0.out;
        blocks = λ t. subst (λ (x : FileId). FitBytes (def_at h x.table) x.bucket (cond told (own_bytes f) [])) (sym id)
            (subst (FitBytes (def_at h l.table) i) (sym (ap (λ y. cond y (own_bytes f) []) t)) (given.0.blocks (first_true files seals t) i within));
      }

  log_at : (t i : ℕ) (x : Place) → slice_get (places_in c.tables t) i ≡ Some x → IsAt (entries_of h) t i x
  log_at t i x e = ap (λ ps. slice_get ps i) (sym (ok.places t ∙ ap (λ es. pool es t) (sym (history-entries told c)))) ∙ e

  not_out : (t i : ℕ) → the_lane ls t i ≡ None → place_at c.tables t i ≡ place.Out k → (i < length (places_in c.tables t)) ⊎ (length (places_in c.tables t) ≤ i) → ⊥
  not_out t i is e (inl lt) =
      let at = log_at t i (place.Out k) (at_get (places_in c.tables t) i lt ∙ ap Some (get_place (table_in c.tables t).slots i ∙ e)) in
      let lane = may.all t i at in
      there_is ls t i lane.0 lane.1 lane.2 lane.3 is
  not_out t i is e (inr le) = absurd (let x : place.Unborn ≡ place.Out k = sym (get_or_past (places_in c.tables t) i place.Unborn le) ∙ get_place (table_in c.tables t).slots i ∙ e in cc)

  place_by_lane : (t i : ℕ) (o : Option LaneState) → the_lane ls t i ≡ o → home_by o (place_at c.tables t i) ≡ committed k (place_at c.tables t i)
  place_by_lane t i (Some l) is =
      let r = found_lane Given ls t i l lanes_given is in
      let at : IsAt (entries_of h) t i (place.Out k) = subst (λ x. IsAt (entries_of h) x i (place.Out k)) r.1 (subst (λ x. IsAt (entries_of h) l.table x (place.Out k)) r.2 r.0.0.out) in
      let here : slice_get (places_in c.tables t) i ≡ Some (place.Out k) = ap (λ ps. slice_get ps i) (ok.places t ∙ ap (λ es. pool es t) (sym (history-entries told c))) ∙ at in
      let p : place_at c.tables t i ≡ place.Out k = sym (get_place (table_in c.tables t).slots i) ∙ get_at (places_in c.tables t) i (place.Out k) here in
      sym (ap (committed k) p ∙ comes_home k)
  place_by_lane t i None is = sym (still_there k (place_at c.tables t i) (λ e. not_out t i is e (below_or i (length (places_in c.tables t)))))

  place_now : (t i : ℕ) → place_at ts t i ≡ committed k (place_at c.tables t i)
  place_now t i = taken.places t i ∙ place_by_lane t i (the_lane ls t i) refl

  places_now : (t : ℕ) → places_in ts t ≡ map (committed k) (places_in c.tables t)
  places_now t = elim (below_or t (length c.tables)) [
    | inl lt ↦ ext_get_or place.Unborn (places_in ts t) (map (committed k) (places_in c.tables t))
        (length-map (table_in ts t).slots slots.place_of ∙ (taken.tables t (omega (arith, lt, taken.many))).slots ∙ sym (length-map (places_in c.tables t) (committed k) ∙ length-map (table_in c.tables t).slots slots.place_of ∙ (ok.tables t lt).slots))
        (λ i h. get_place (table_in ts t).slots i ∙ place_now t i ∙ sym (get_committed k (places_in c.tables t) i ∙ ap (committed k) (get_place (table_in c.tables t).slots i)))
    | inr le ↦ ap (λ (x : TableState). slots.places x.slots) (get_or_past ts t unmade (omega (arith, le, taken.many))) ∙ sym (none_committed k)
        ∙ ap (λ (x : TableState). map (committed k) (slots.places x.slots)) (sym (get_or_past c.tables t unmade le))
  ]

  defs_now : map (λ (t : TableState). t.def) ts ≡ map (λ (t : TableState). t.def) c.tables
  defs_now = defs_by ts c.tables taken.many taken.defs

  lawful : IsLawful (length c.marks) c.log k entry.Commit
  lawful =
      let first = may.each 0 may.some in (
        ((lane_at ls 0).table, subst (λ es. list_any (is_out_to k) (pool es (lane_at ls 0).table) ≡ true) (history-entries told c) (any_out k (pool (entries_of h) (lane_at ls 0).table) (lane_at ls 0).number first.out)),
        λ t. subst (λ es. list_any (is_swept_by k) (pool es t) ≡ false) (history-entries told c) (may.none_swept t),
      )

  -- the Commit keeps what holds, and adds what the lanes have grown by
  pub keeps : Keeps told c (with_parts c.marks ts (c.log ++ entry_by k m entry.Commit ∷ []) c.changes (c.grown ++ grown_of (length c.log) ls)) n
  keeps =
      let log : List Entry = c.log ++ entry_by k m entry.Commit ∷ [] in
      let d : CatState = with_parts c.marks ts log c.changes (c.grown ++ grown_of (length c.log) ls) in
      let longer : length log ≡ length c.log + 1 = length-append c.log (entry_by k m entry.Commit ∷ []) in
      let stay = deposits_stay told c d (grown_of (length c.log) ls) (λ i lt. refl) refl now (same_old c.grown ok.grown) in
      let left : deposit_at told d (length c.log) entry.Commit ≡ Published gs =
      ap Published (ap (map (past.growth_of told ts)) (grown_now told c.tables (length c.log) c.grown (grown_of (length c.log) ls) ok.grown now) ∙ map_lanes told (length c.log) ts ls settled) in
      let grew : history told d ≡ h ++ n ∷ [] = history-push told c d n refl stay left in
      let ms = marks_kept c.marks c.marks c.log (entry_by k m entry.Commit) ok.marks refl in (
        record {
          few = omega (arith, ok.few, taken.many);
          legal = (IsLegal-push (length c.marks) c.log (entry_by k m entry.Commit)).1 (ok.legal, lawful);
          deposits = subst (IsHistory told) (sym grew) ((IsHistory-push told h n).1 (
            ok.deposits,
            (
              refl,
              record {
                each = all_from (IsGrowth told h) gs (each_growth_of (IsGrowth told h) told ls (weaker Given (λ l. (i : ℕ) → i < length l.files → grows (file_of l.files i) ≡ true → IsGrowth told h (growth_of told (file_of l.files i))) ls growth_one lanes_given));
                once = distinct_by gs (once_lanes told ls (weaker (IsWell told) HasIds ls (λ l w. w.ids) wells) are_apart);
              },
            ),
          ));
          own = subst (AreOwnSteps told []) (sym grew) (own_pushed told [] h n ok.own (record {
            growths = each_growth_of (IsOwnGrowth told h k) told ls (weaker Given (λ l. (i : ℕ) → i < length l.files → grows (file_of l.files i) ≡ true → IsOwnGrowth told h k (growth_of told (file_of l.files i))) ls own_one lanes_given);
            runs = refl;
          }));
          marks = ms.1;
          definitions = defs_now ∙ ok.definitions ∙ sym (tables-push h n) ∙ ap tables_left (sym grew);
          places = λ t. places_now t ∙ ap (λ ps. map (committed k) ps) (ok.places t) ∙ sym (pool-push c.log (entry_by k m entry.Commit) t);
          tables = taken.tables;
          seals = λ t i b. subst (λ x. HasSeal told x (id_of t i b) (seal_of ts (id_of t i b))) (sym grew) (new_seal t i b);
          changed = λ t i b. taken.changed t i b ∙ ap (place_by (suc (length c.log)) (the_file (the_lane ls t i) b)) (ok.changed t i b)
              ∙ ap (λ p. place_by (suc p) (the_file (the_lane ls t i) b) (last_change h (id_of t i b))) (sym (length-history told c))
              ∙ sym (change_after told h k m gs (id_of t i b) (the_file (the_lane ls t i) b) (does t i b)) ∙ ap (λ x. last_change x (id_of t i b)) (sym grew);
          changes = further_changes (length c.log) (length log) c.changes (omega (arith, longer)) ok.changes;
          grown = subst (λ i. AllByRecursion (IsPast told ts i) (c.grown ++ grown_of (length c.log) ls)) (sym longer)
              (all_grown (IsPast told ts (length c.log + 1)) c.grown (grown_of (length c.log) ls) (old_past c.grown ok.grown) new_past);
        },
        grew,
      )
