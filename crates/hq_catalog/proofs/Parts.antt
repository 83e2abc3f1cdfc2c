-- Books with one entry more.
use Rattle.std.proofs.Common.{◌≡◌, ℕ, ◌+◌, ◌<◌, ◌≤◌, ltb, cond, Bool, true, false, List, [], ◌∷◌, ◌++◌, length, map, Option, Some, None, Result, Ok, Err, position, slice_get, slice_index_or, slice_set, refl, sym, ◌∙◌, ap, subst, arith, inl, inr}
use Rattle.std.specs.List.{list_any, find, position_or_len}
use Rattle.std.specs.Result.{is_err, OnOk}
use Rattle.std.proofs.lemmas.Bool.{cases_eq}
use Rattle.std.proofs.lemmas.Bool.Decides.{nat_tests}
use Rattle.std.proofs.lemmas.List.{get_or_default, length-map}
use Rattle.std.proofs.lemmas.List.Folds.{find_at}
use Rattle.std.proofs.lemmas.Option.{slice_get-get_or, slice_get_past}
use Rattle.std.proofs.Math.Seq.{map-set_same}
use Rattle.hq_value.specs.declared.entry.EntryKind.TheVariants as entry
use Rattle.hq_value.specs.Tables.{Definition}
use Rattle.hq_log.specs.Places.{is_dirty}
use Rattle.hq_log.proofs.Nexts.{none_passes}
use Rattle.hq_lane.specs.Lanes.{LaneState, are_clean}
use Rattle.hq_pool.specs.declared.slot.Slot.{Slot}
use Rattle.hq_pool.specs.declared.slot.Slot.TheVariants as slot
use Rattle.hq_pool.specs.Slots as slots
use Rattle.hq_pool.specs.Lends.{SweepsLane, SweepsAny}
use Rattle.hq_history.specs.Deposits.{tables_left}
use Rattle.hq_snap.specs.declared.scope.Have.{Have}
use Rattle.hq_catalog.specs.Copies.{is_had}
use Rattle.hq_catalog.specs.History.{history}
use Rattle.hq_catalog.specs.Looks.{have_at, place_or_first}
use Rattle.hq_history.specs.declared.noted.Noted.{Noted}
use Rattle.hq_history.specs.declared.noted.Deposit.TheVariants.{Nothing}
use Rattle.hq_catalog.specs.State.{TableState, CatState, table_in, unmade, places_in}
use Rattle.hq_catalog.specs.CatStep.{noted}
use Rattle.hq_catalog.specs.Kept.{IsCatalogue, slot_at, home_slot, owes, owed}
use Rattle.hq_catalog.proofs.Quiet.{Keeps}
use Rattle.hq_catalog.proofs.Lends.{set_same}
use Rattle.hq_catalog.proofs.Moves.{with_parts, with_slot, entry_by, still}
use Rattle.hq_catalog.proofs.Rooms.{owed_moved}

-- what a call ensures where it didn't fail
pub on_ok : {A E : Type 0} (P : Type 0) (r : Result A E) → is_err r ≡ false → OnOk r P → P
on_ok P (Ok x) e p = p
on_ok P (Err y) e p = cc

-- the table that was read
pub read_table : (ts : List TableState) (i t : ℕ) (x : TableState) → x ≡ slice_index_or ts i x → i ≡ t → t < length ts → x ≡ table_in ts t
read_table ts i t x e same h = e ∙ ap (λ j. slice_index_or ts j x) same ∙ get_or_default ts t x unmade h

-- what holds of equal catalogues
pub keeps_same : (told : Bool) (c d e : CatState) (n : Noted) → d ≡ c → Keeps told d e n → Keeps told c e n
keeps_same told c d e n same k = subst (λ x. Keeps told x e n) same k

-- a node is marked
pub marked : (told : Bool) (c : CatState) (k m node : ℕ) (up : Bool) → IsCatalogue told c → node < length c.marks
    → Keeps told c (with_parts (slice_set c.marks node up) c.tables (c.log ++ entry_by k m (entry.Mark node up) ∷ []) c.changes c.grown) (noted k m (entry.Mark node up) Nothing)
marked told c k m node up ok within = still told c (slice_set c.marks node up) k m (entry.Mark node up) ok refl (λ e. cc) refl within (λ t ps. refl)

-- the names stay where the definitions do
pub names_moved : (ts : List TableState) (t : ℕ) (y : TableState) → y.def.name ≡ (table_in ts t).def.name → map (λ (x : TableState). x.def.name) (slice_set ts t y) ≡ map (λ (x : TableState). x.def.name) ts
names_moved ts t y e = map-set_same (λ (x : TableState). x.def.name) ts t y unmade e

-- the place at which a session has a table
pos_by : (b : Bool) (n i : ℕ) → cond b (Some n) None ≡ Some i → (b ≡ true) × (n ≡ i)
pos_by true n i e = (refl, cc)
pos_by false n i e = cc

none_by : (b : Bool) (n : ℕ) → cond b (Some n) None ≡ None → b ≡ false
none_by true n e = cc
none_by false n e = refl

pub had_some : (have : List Have) (t i : ℕ) (x : Have) → position (is_had t) have ≡ Some i → x ≡ slice_index_or have i x → x.at ≡ have_at have t
had_some have t i x e read =
    let r = pos_by (ltb (position_or_len (is_had t) have) (length have)) (position_or_len (is_had t) have) i e in
    let lt : i < length have = (let p = r.0 in let q = r.1 in grind (arith, nat_tests)) in
    let found : find (is_had t) have ≡ Some (slice_index_or have i x) = find_at (is_had t) have ∙ ap (slice_get have) r.1 ∙ slice_get-get_or have i x lt in
    sym (ap place_or_first (found ∙ ap Some (sym read)))

pub had_none : (have : List Have) (t : ℕ) → position (is_had t) have ≡ None → 0 ≡ have_at have t
had_none have t e =
    let r = none_by (ltb (position_or_len (is_had t) have) (length have)) (position_or_len (is_had t) have) e in
    let le : length have ≤ position_or_len (is_had t) have = (let p = r in grind (arith, nat_tests)) in
    sym (ap place_or_first (find_at (is_had t) have ∙ slice_get_past have (position_or_len (is_had t) have) le))

-- what a table sweeps where it has no lane with a tail
pub none_swept : (k : ℕ) (ss new : List (Slot LaneState)) (o : Option ℕ) (r : Option (ℕ × LaneState)) → SweepsLane k ss o r new → r ≡ None → (o ≡ None) × (new ≡ ss)
none_swept k ss new None r s e = (refl, s.1)
none_swept k ss new (Some n) r s e = (let clash : Some (n, s.0) ≡ None = sym s.2 ∙ e in cc)

pub swept_all : (k t : ℕ) (ts old : List TableState) (x y : TableState) (r : Option (ℕ × LaneState)) → ts ≡ old → x ≡ slice_index_or ts t x → t < length ts → SweepsAny k x.slots r y.slots → y ≡ record x { slots = y.slots } → r ≡ None
    → ((u : ℕ) → u < t → list_any is_dirty (places_in old u) ≡ false) → (slice_set ts t y ≡ old) × ((u : ℕ) → u < t + 1 → list_any is_dirty (places_in old u) ≡ false)
swept_all k t ts old x y r same read lt swept is none before =
    let s = none_swept k x.slots y.slots (position is_dirty (slots.places x.slots)) r swept none in
    let back : y ≡ x = is ∙ ap (λ ss. record x { slots = ss }) s.1 in
    let here : x ≡ table_in old t = read_table ts t t x read refl lt ∙ ap (λ l. table_in l t) same in (
      ap (slice_set ts t) (back ∙ read) ∙ set_same ts t x ∙ same,
      λ u h. elim (cases_eq u t) [
        | inl e ↦ ap (λ i. list_any is_dirty (places_in old i)) e ∙ ap (λ (z : TableState). list_any is_dirty (slots.places z.slots)) (sym here) ∙ none_passes is_dirty (slots.places x.slots) s.0
        | inr d ↦ before u (omega (arith, h, d))
      ],
    )

-- a lane that comes home pays an entry
pub pays : (ts : List TableState) (t n : ℕ) (s : Slot LaneState) → t < length ts → n < length (table_in ts t).slots → owes s + 1 ≤ owes (slot_at (table_in ts t).slots n)
    → owed (slice_set ts t (with_slot (table_in ts t) n s)) + 1 ≤ owed ts
pays ts t n s made within less = omega (arith, owed_moved ts t n s made within, less)

pub home_pays : (l : LaneState) → owes (home_slot l) ≡ 0
home_pays l = by (are_clean l.files)
  where
    by : (b : Bool) → owes (cond b (slot.Clean l) (slot.Dirty l)) ≡ 0
    by true = refl
    by false = refl

-- a table that is made for the history is there
pub made_in : (told : Bool) (c : CatState) (t : ℕ) → IsCatalogue told c → t < length (tables_left (history told c)) → t < length c.tables
made_in told c t ok h = omega (arith, h, ap (λ (ds : List Definition). length ds) ok.definitions, length-map c.tables (λ (x : TableState). x.def))
