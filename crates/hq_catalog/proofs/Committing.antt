-- Files of a lane that are committed one by one, and lanes one by one.
use Rattle.std.proofs.Common.{◌≡◌, ◌≢◌, ℕ, suc, ◌+◌, ◌<◌, ◌≤◌, ◌&&◌, Bool, true, false, cond, List, [], ◌∷◌, ◌++◌, length, map, reverse, take, flat_map, Option, Some, None, option_map, unwrap_or, slice_set, refl, sym, ◌∙◌, ap, subst, arith, inl, inr, length-append}
use Rattle.std.specs.List.{AllByRecursion}
use Rattle.std.proofs.lemmas.Bool.{cases_eq, lt-ltb, le-ltb}
use Rattle.std.proofs.lemmas.List.{append-nil, append_assoc, get_or-set_same, get_or-set_other, length-set, reverse-append, reverse-reverse}
use Rattle.std.proofs.Math.Seq.{take-suc}
use Rattle.std.proofs.lemmas.Grind.{flat_map-append}
use Rattle.hq_value.specs.declared.entry.Entry.{Entry}
use Rattle.hq_value.specs.declared.entry.EntryKind.TheVariants as entry
use Rattle.hq_value.specs.Tables.{Definition}
use Rattle.hq_log.specs.Places.{is_out}
use Rattle.hq_store.specs.FileStep.{SealState}
use Rattle.hq_lane.specs.Lanes.{LaneState, id_of, file_of}
use Rattle.hq_lane.specs.BucketFiles.{BucketState, no_file, published}
use Rattle.hq_history.specs.declared.noted.Deposit.TheVariants.{Published}
use Rattle.hq_snap.specs.Snaps.{seal_at, change_at, change_in, changes_in}
use Rattle.hq_snap.proofs.Elements.{below_or}
use Rattle.hq_catalog.specs.declared.kept.Grown.{Grown}
use Rattle.hq_catalog.specs.State.{TableState, CatState, table_in}
use Rattle.hq_catalog.specs.History.{history}
use Rattle.hq_catalog.specs.Asks.{MayCommit, MayCommitOne, lane_at}
use Rattle.hq_catalog.specs.CatStep.{noted}
use Rattle.hq_catalog.specs.Kept.{IsCatalogue, IsTable, owed}
use Rattle.hq_catalog.specs.Lanes.{growths_of}
use Rattle.hq_catalog.specs.Commits.{grows, the_lane, seal_by, place_by, file_below, file_by, with_seal, with_change, grown_if_any, grown_in_lane, grown_of, AreApart, AreCommitted, AreTaken, IsReady, IsTaken, IsWell, is_lane}
use Rattle.hq_catalog.proofs.Backs.{out_there}
use Rattle.hq_catalog.proofs.Committed.{all_lanes, defs_by, keeps, lane_symm}
use Rattle.hq_catalog.proofs.Moves.{with_parts, entry_by}
use Rattle.hq_catalog.proofs.Quiet.{Keeps}
use Rattle.hq_catalog.proofs.Rooms.{parts_are}
use Rattle.hq_catalog.proofs.Taken.{out_within, owed_one, paid_one, ready_still, taken_more, taken_none}

-- the files below a bucket
below_some : (i : ℕ) (fs : List BucketState) (b : ℕ) → b < i → file_below i fs b ≡ Some (file_of fs b)
below_some i fs b lt = ap (λ y. cond y (Some (file_of fs b)) None) (lt-ltb b i lt)

below_none : (i : ℕ) (fs : List BucketState) (b : ℕ) → i ≤ b → file_below i fs b ≡ None
below_none i fs b le = ap (λ y. cond y (Some (file_of fs b)) None) (le-ltb b i le)

below_other : (i : ℕ) (fs : List BucketState) (b : ℕ) → b ≢ i → file_below (i + 1) fs b ≡ file_below i fs b
below_other i fs b d = elim (below_or b i) [
  | inl lt ↦ below_some (i + 1) fs b (omega (arith, lt)) ∙ sym (below_some i fs b lt)
  | inr le ↦ below_none (i + 1) fs b (omega (arith, le, d)) ∙ sym (below_none i fs b le)
]

-- the seals with one more
seal_same_by : (f : BucketState) (y : Bool) (i : ℕ) (ss : List (Option SealState)) → i < length ss → seal_at (cond y (slice_set ss i f.fresh) ss) i ≡ cond y f.fresh (seal_at ss i)
seal_same_by f true i ss lt = get_or-set_same ss i f.fresh None lt
seal_same_by f false i ss lt = refl

seal_other_by : (f : BucketState) (y : Bool) (i b : ℕ) (ss : List (Option SealState)) → b ≢ i → seal_at (cond y (slice_set ss i f.fresh) ss) b ≡ seal_at ss b
seal_other_by f true i b ss d = get_or-set_other ss i b f.fresh None d
seal_other_by f false i b ss d = refl

seal_len_by : (f : BucketState) (y : Bool) (i : ℕ) (ss : List (Option SealState)) → length (cond y (slice_set ss i f.fresh) ss) ≡ length ss
seal_len_by f true i ss = length-set ss i f.fresh
seal_len_by f false i ss = refl

-- the places with one more
row_by : (p n i : ℕ) (cs : List (List ℕ)) → n < length cs → changes_in (slice_set cs n (slice_set (changes_in cs n) i p)) n ≡ slice_set (changes_in cs n) i p
row_by p n i cs lt = get_or-set_same cs n (slice_set (changes_in cs n) i p) [] lt

change_same_by : (y : Bool) (p n i : ℕ) (cs : List (List ℕ)) → n < length cs → i < length (changes_in cs n) → change_in (cond y (slice_set cs n (slice_set (changes_in cs n) i p)) cs) n i ≡ cond y p (change_in cs n i)
change_same_by true p n i cs lt within = ap (λ row. change_at row i) (row_by p n i cs lt) ∙ get_or-set_same (changes_in cs n) i p 0 within
change_same_by false p n i cs lt within = refl

change_other_by : (y : Bool) (p n i b : ℕ) (cs : List (List ℕ)) → n < length cs → b ≢ i → change_in (cond y (slice_set cs n (slice_set (changes_in cs n) i p)) cs) n b ≡ change_in cs n b
change_other_by true p n i b cs lt d = ap (λ row. change_at row b) (row_by p n i cs lt) ∙ get_or-set_other (changes_in cs n) i b p 0 d
change_other_by false p n i b cs lt d = refl

row_len_by : (y : Bool) (p n i : ℕ) (cs : List (List ℕ)) → n < length cs → length (changes_in (cond y (slice_set cs n (slice_set (changes_in cs n) i p)) cs) n) ≡ length (changes_in cs n)
row_len_by true p n i cs lt = ap (λ (row : List ℕ). length row) (row_by p n i cs lt) ∙ length-set (changes_in cs n) i p
row_len_by false p n i cs lt = refl

rows_len_by : (y : Bool) (p n i : ℕ) (cs : List (List ℕ)) → length (cond y (slice_set cs n (slice_set (changes_in cs n) i p)) cs) ≡ length cs
rows_len_by true p n i cs = length-set cs n (slice_set (changes_in cs n) i p)
rows_len_by false p n i cs = refl

rows_other_by : (y : Bool) (p n i k : ℕ) (cs : List (List ℕ)) → k ≢ n → changes_in (cond y (slice_set cs n (slice_set (changes_in cs n) i p)) cs) k ≡ changes_in cs k
rows_other_by true p n i k cs d = get_or-set_other cs n k (slice_set (changes_in cs n) i p) [] d
rows_other_by false p n i k cs d = refl

-- no file yet
pub committed_none : (p : ℕ) (l : LaneState) (ss : List (Option SealState)) (cs : List (List ℕ)) → AreCommitted 0 p l l ss ss cs cs
committed_none p l ss cs = record {
  table = refl;
  number = refl;
  as_many = refl;
  files = λ b h. sym (ap (λ o. file_by o (file_of l.files b)) (below_none 0 l.files b (omega arith)));
  many = refl;
  seals = λ b. sym (ap (λ o. seal_by o (seal_at ss b)) (below_none 0 l.files b (omega arith)));
  rows = refl;
  row = refl;
  places = λ b. sym (ap (λ o. place_by p o (change_in cs l.number b)) (below_none 0 l.files b (omega arith)));
  others = λ n d. refl;
}

-- the next file is as it was
pub file_next : (i p : ℕ) (l mid : LaneState) (s0 s1 : List (Option SealState)) (c0 c1 : List (List ℕ)) → AreCommitted i p l mid s0 s1 c0 c1 → i < 16 → file_of mid.files i ≡ file_of l.files i
file_next i p l mid s0 s1 c0 c1 before within = before.files i within ∙ ap (λ o. file_by o (file_of l.files i)) (below_none i l.files i (omega arith))

module _ (i p : ℕ) (l mid new : LaneState) (s0 s1 s2 : List (Option SealState)) (c0 c1 c2 : List (List ℕ)) (before : AreCommitted i p l mid s0 s1 c0 c1)
    (within : i < 16) (many : length mid.files ≡ 16) (seals : length s0 ≡ 16) (lanes : l.number < length c0) (places : length (changes_in c0 l.number) ≡ 16) where
  next_file : file_of mid.files i ≡ file_of l.files i
  next_file = file_next i p l mid s0 s1 c0 c1 before within

  each_bucket : (P : ℕ → Type 0) → P i → ((b : ℕ) → b ≢ i → P b) → (b : ℕ) → P b
  each_bucket P at others b = elim (cases_eq b i) [ inl e ↦ subst P (sym e) at | inr d ↦ others b d ]

  module _ (lane_is : new ≡ record mid { files = slice_set mid.files i (published (file_of mid.files i)) }) (seals_are : s2 ≡ with_seal (file_of mid.files i) i s1)
      (changed_is : c2 ≡ with_change (file_of mid.files i) p mid.number i c1) where
    in_lanes : l.number < length c1
    in_lanes = omega (arith, lanes, before.rows)

    numbered : c2 ≡ with_change (file_of mid.files i) p l.number i c1
    numbered = changed_is ∙ ap (λ n. with_change (file_of mid.files i) p n i c1) before.number

    files_by : (b : ℕ) → b < 16 → file_of new.files b ≡ file_by (file_below (i + 1) l.files b) (file_of l.files b)
    files_by = each_bucket (λ b. b < 16 → file_of new.files b ≡ file_by (file_below (i + 1) l.files b) (file_of l.files b))
        (λ h. ap (λ (x : LaneState). file_of x.files i) lane_is ∙ get_or-set_same mid.files i (published (file_of mid.files i)) (no_file (id_of 0 0 0)) (omega (arith, h, many))
        ∙ ap published next_file ∙ ap (λ o. file_by o (file_of l.files i)) (sym (below_some (i + 1) l.files i (omega arith))))
        (λ b d h. ap (λ (x : LaneState). file_of x.files b) lane_is ∙ get_or-set_other mid.files i b (published (file_of mid.files i)) (no_file (id_of 0 0 0)) d
        ∙ before.files b h ∙ ap (λ o. file_by o (file_of l.files b)) (sym (below_other i l.files b d)))

    seals_by : (b : ℕ) → seal_at s2 b ≡ seal_by (file_below (i + 1) l.files b) (seal_at s0 b)
    seals_by = each_bucket (λ b. seal_at s2 b ≡ seal_by (file_below (i + 1) l.files b) (seal_at s0 b))
        (ap (λ ss. seal_at ss i) seals_are ∙ seal_same_by (file_of mid.files i) (grows (file_of mid.files i)) i s1 (omega (arith, within, seals, before.many))
        ∙ ap (seal_by (Some (file_of mid.files i))) (before.seals i ∙ ap (λ o. seal_by o (seal_at s0 i)) (below_none i l.files i (omega arith)))
        ∙ ap (λ x. seal_by (Some x) (seal_at s0 i)) next_file ∙ ap (λ o. seal_by o (seal_at s0 i)) (sym (below_some (i + 1) l.files i (omega arith))))
        (λ b d. ap (λ ss. seal_at ss b) seals_are ∙ seal_other_by (file_of mid.files i) (grows (file_of mid.files i)) i b s1 d ∙ before.seals b ∙ ap (λ o. seal_by o (seal_at s0 b)) (sym (below_other i l.files b d)))

    places_by : (b : ℕ) → change_in c2 l.number b ≡ place_by p (file_below (i + 1) l.files b) (change_in c0 l.number b)
    places_by = each_bucket (λ b. change_in c2 l.number b ≡ place_by p (file_below (i + 1) l.files b) (change_in c0 l.number b))
        (ap (λ cs. change_in cs l.number i) numbered ∙ change_same_by (grows (file_of mid.files i)) p l.number i c1 in_lanes (omega (arith, within, places, before.row))
        ∙ ap (place_by p (Some (file_of mid.files i))) (before.places i ∙ ap (λ o. place_by p o (change_in c0 l.number i)) (below_none i l.files i (omega arith)))
        ∙ ap (λ x. place_by p (Some x) (change_in c0 l.number i)) next_file ∙ ap (λ o. place_by p o (change_in c0 l.number i)) (sym (below_some (i + 1) l.files i (omega arith))))
        (λ b d. ap (λ cs. change_in cs l.number b) numbered ∙ change_other_by (grows (file_of mid.files i)) p l.number i b c1 in_lanes d ∙ before.places b
        ∙ ap (λ o. place_by p o (change_in c0 l.number b)) (sym (below_other i l.files b d)))

    -- one file more is committed
    pub committed_more : AreCommitted (i + 1) p l new s0 s2 c0 c2
    committed_more = record {
      table = ap (λ (x : LaneState). x.table) lane_is ∙ before.table;
      number = ap (λ (x : LaneState). x.number) lane_is ∙ before.number;
      as_many = ap (λ (x : LaneState). length x.files) lane_is ∙ length-set mid.files i (published (file_of mid.files i)) ∙ before.as_many;
      files = files_by;
      many = ap (λ (ss : List (Option SealState)). length ss) seals_are ∙ seal_len_by (file_of mid.files i) (grows (file_of mid.files i)) i s1 ∙ before.many;
      seals = seals_by;
      rows = ap (λ (cs : List (List ℕ)). length cs) numbered ∙ rows_len_by (grows (file_of mid.files i)) p l.number i c1 ∙ before.rows;
      row = ap (λ cs. length (changes_in cs l.number)) numbered ∙ row_len_by (grows (file_of mid.files i)) p l.number i c1 in_lanes ∙ before.row;
      places = places_by;
      others = λ n d. ap (λ cs. changes_in cs n) numbered ∙ rows_other_by (grows (file_of mid.files i)) p l.number i n c1 d ∙ before.others n d;
    }

-- what is kept of one file more
pub grown_more : (m i : ℕ) (fs : List BucketState) (f : BucketState) (kept mid new : List Grown) → i < length fs → f ≡ file_of fs i → mid ≡ kept ++ flat_map (grown_if_any m) (take i fs) → new ≡ mid ++ grown_if_any m f
    → new ≡ kept ++ flat_map (grown_if_any m) (take (i + 1) fs)
grown_more m i fs f kept mid new lt is before after =
    let one : take (i + 1) fs ≡ take i fs ++ file_of fs i ∷ [] = ap (λ k. take k fs) (let e : i + 1 ≡ suc i = omega arith in e) ∙ take-suc fs i (no_file (id_of 0 0 0)) lt in
    after ∙ ap (λ x. x ++ grown_if_any m f) before ∙ ap (λ x. (kept ++ flat_map (grown_if_any m) (take i fs)) ++ grown_if_any m x) is
    ∙ append_assoc kept (flat_map (grown_if_any m) (take i fs)) (grown_if_any m (file_of fs i))
    ∙ ap (λ x. kept ++ x) (ap (λ x. flat_map (grown_if_any m) (take i fs) ++ x) (sym (append-nil (grown_if_any m (file_of fs i)))) ∙ sym (flat_map-append (grown_if_any m) (take i fs) (file_of fs i ∷ [])) ∙ ap (flat_map (grown_if_any m)) (sym one))

-- lanes of which some have come home, and `left` are left, the last first
pub record IsUnderWay (files seals : Bool) (m : ℕ) (ls left : List LaneState) (old now : List TableState) (kept grown : List Grown) : Type 0 where
  pub done : List LaneState
  pub all : done ++ reverse left ≡ ls
  pub well : AllByRecursion (IsWell (files && seals)) done
  pub taken : AreTaken (files && seals) m done old now
  pub grew : grown ≡ kept ++ grown_of m done
  pub paid : owed now + length done ≤ owed old

pub starts : (files seals : Bool) (m : ℕ) (ls left : List LaneState) (ts : List TableState) (kept : List Grown) → left ≡ reverse ls → ((t : ℕ) → t < length ts → IsTable (files && seals) t (table_in ts t))
    → IsUnderWay files seals m ls left ts ts kept kept
starts files seals m ls left ts kept is ok = record {
  done = [];
  all = ap reverse is ∙ reverse-reverse ls;
  well = tt;
  taken = taken_none (files && seals) m ts ok;
  grew = sym (append-nil kept);
  paid = omega arith;
}

split_last : (P : LaneState → Type 0) (xs : List LaneState) (l : LaneState) (ys : List LaneState) → AllByRecursion P (xs ++ l ∷ ys) → P l
split_last P [] l ys h = h.0
split_last P (x ∷ xs) l ys h = split_last P xs l ys h.1

with_last : (P : LaneState → Type 0) (xs : List LaneState) (l : LaneState) → AllByRecursion P xs → P l → AllByRecursion P (xs ++ l ∷ [])
with_last P [] l h p = (p, tt)
with_last P (x ∷ xs) l h p = (h.0, with_last P xs l h.1 p)

not_there : (y : Bool) (x : LaneState) (o : Option LaneState) → cond y (Some x) o ≡ None → (y ≡ false) × (o ≡ None)
not_there true x o e = cc
not_there false x o e = (refl, e)

-- a lane that is apart from those before it
apart_here : (xs : List LaneState) (l : LaneState) (ys : List LaneState) → AreApart (xs ++ l ∷ ys) → the_lane xs l.table l.number ≡ None
apart_here [] l ys h = refl
apart_here (x ∷ xs) l ys h = ap (λ y. cond y (Some x) (the_lane xs l.table l.number)) (not_same xs h.0) ∙ apart_here xs l ys h.1
  where
    not_same : (zs : List LaneState) → the_lane (zs ++ l ∷ ys) x.table x.number ≡ None → is_lane l.table l.number x ≡ false
    not_same [] e = lane_symm l x ∙ (not_there (is_lane x.table x.number l) l (the_lane ys x.table x.number) e).0
    not_same (z ∷ zs) e = not_same zs (not_there (is_lane x.table x.number z) z (the_lane (zs ++ l ∷ ys) x.table x.number) e).1

-- the lanes with the next one
next_all : (done rest left ls : List LaneState) (l : LaneState) → left ≡ rest ++ l ∷ [] → done ++ reverse left ≡ ls → done ++ l ∷ reverse rest ≡ ls
next_all done rest left ls l is all = sym (ap (λ x. done ++ reverse x) is ∙ ap (λ x. done ++ x) (reverse-append rest (l ∷ []))) ∙ all

module _ (files seals : Bool) (m : ℕ) (ls left rest : List LaneState) (l : LaneState) (old now : List TableState) (kept grown : List Grown)
    (way : IsUnderWay files seals m ls left old now kept grown) (is : left ≡ rest ++ l ∷ []) (apart : AreApart ls) where
  all_now : way.done ++ l ∷ reverse rest ≡ ls
  all_now = next_all way.done rest left ls l is way.all

  apart_now : the_lane way.done l.table l.number ≡ None
  apart_now = apart_here way.done l (reverse rest) (subst AreApart (sym all_now) apart)

  -- the next lane is ready
  pub next_ready : AllByRecursion (IsReady files seals old) ls → ((t : ℕ) → t < length old → IsTable (files && seals) t (table_in old t)) → IsReady files seals now l
  next_ready ready tables = ready_still files seals m way.done l old now way.taken apart_now tables (split_last (IsReady files seals old) way.done l (reverse rest) (subst (AllByRecursion (IsReady files seals old)) (sym all_now) ready))

  -- one lane more has come home
  pub goes_on : (y : TableState) (new : List Grown) → IsReady files seals now l → IsTaken (files && seals) m l (table_in now l.table) y → IsWell (files && seals) l → new ≡ grown ++ grown_in_lane m l
      → IsUnderWay files seals m ls rest old (slice_set now l.table y) kept new
  goes_on y new ready taken well is_new =
      let pays = paid_one now l.table l.number y taken.home ready.made ready.out taken.slots in
      record {
        done = way.done ++ l ∷ [];
        all = append_assoc way.done (l ∷ []) (reverse rest) ∙ all_now;
        well = with_last (IsWell (files && seals)) way.done l way.well well;
        taken = taken_more (files && seals) m way.done l old now y way.taken apart_now ready.made (out_within (table_in now l.table) l.number ready.out) taken;
        grew = is_new ∙ ap (λ x. x ++ grown_in_lane m l) way.grew ∙ append_assoc kept (grown_of m way.done) (grown_in_lane m l)
            ∙ ap (λ x. kept ++ x) (ap (λ x. grown_of m way.done ++ x) (sym (append-nil (grown_in_lane m l))) ∙ sym (flat_map-append (grown_in_lane m) way.done (l ∷ [])));
        paid = omega (arith, pays, way.paid, length-append way.done (l ∷ []));
      }

-- none is left
pub all_done : (files seals : Bool) (m : ℕ) (ls left : List LaneState) (old now : List TableState) (kept grown : List Grown) (way : IsUnderWay files seals m ls left old now kept grown) → left ≡ [] → way.done ≡ ls
all_done files seals m ls left old now kept grown way is = sym (append-nil way.done) ∙ ap (λ x. way.done ++ reverse x) (sym is) ∙ way.all

-- lanes that a session may commit are ready
module _ (files seals : Bool) (c : CatState) (k : ℕ) (ok : IsCatalogue (files && seals) c) where
  ready_one : (l : LaneState) → MayCommitOne files seals k (history (files && seals) c) l → IsReady files seals c.tables l
  ready_one l may =
      let at = out_there (files && seals) c k l.table l.number ok may.out in
      record {
        made = at.made;
        out = ap (λ o. unwrap_or (option_map is_out o) false) at.at_place;
        begins = record {
          base = λ b h. may.agrees.base b h ∙ sym (ok.seals l.table l.number b).len;
          bytes = λ t b h. may.agrees.bytes t b h ∙ sym ((ok.seals l.table l.number b).bytes t);
        };
        sealed = may.sealed;
      }

  pub ready_all : (ls : List LaneState) → MayCommit files seals k (history (files && seals) c) ls → AllByRecursion (IsReady files seals c.tables) ls
  ready_all ls may = all_lanes (IsReady files seals c.tables) ls (λ i h. ready_one (lane_at ls i) (may.each i h))

  -- an entry is owed for them
  pub some_owed : (ls : List LaneState) → MayCommit files seals k (history (files && seals) c) ls → 1 ≤ owed c.tables
  some_owed ls may = owed_one files seals c.tables (lane_at ls 0) (ready_one (lane_at ls 0) (may.each 0 may.some))

  -- all that the lanes have grown by is committed
  pub committed : (m p : ℕ) (ls : List LaneState) (ts : List TableState) (log : List Entry) (grown : List Grown) → MayCommit files seals k (history (files && seals) c) ls → AllByRecursion (IsWell (files && seals)) ls
      → p ≡ length c.log → AreTaken (files && seals) p ls c.tables ts → log ≡ c.log ++ entry_by k m entry.Commit ∷ [] → grown ≡ c.grown ++ grown_of p ls
      → Keeps (files && seals) c (with_parts c.marks ts log c.changes grown) (noted k m entry.Commit (Published (growths_of (files && seals) ls)))
  committed m p ls ts log grown may wells is taken log_is grown_is =
      let one = keeps files seals c k m ls ts ok may wells (subst (λ q. AreTaken (files && seals) q ls c.tables ts) is taken) in
      let all : grown ≡ c.grown ++ grown_of (length c.log) ls = grown_is ∙ ap (λ q. c.grown ++ grown_of q ls) is in
      subst (λ (d : CatState). Keeps (files && seals) c d (noted k m entry.Commit (Published (growths_of (files && seals) ls)))) (sym (parts_are c.marks ts log (c.log ++ entry_by k m entry.Commit ∷ []) c.changes c.changes grown (c.grown ++ grown_of (length c.log) ls) log_is refl all)) one

-- the names stay
names_of : (xs : List TableState) → map (λ (d : Definition). d.name) (map (λ (t : TableState). t.def) xs) ≡ map (λ (t : TableState). t.def.name) xs
names_of [] = refl
names_of (x ∷ xs) = ap (λ ns. x.def.name ∷ ns) (names_of xs)

pub names_stay : (told : Bool) (m : ℕ) (ls : List LaneState) (old new : List TableState) → AreTaken told m ls old new → map (λ (t : TableState). t.def.name) new ≡ map (λ (t : TableState). t.def.name) old
names_stay told m ls old new taken = sym (names_of new) ∙ ap (map (λ (d : Definition). d.name)) (defs_by new old taken.many taken.defs) ∙ names_of old
