-- Lanes that are adopted or come home.
use Rattle.std.proofs.Common.{◌≡◌, ◌≢◌, ◌⊎◌, ℕ, zero, suc, ◌<◌, ◌≤◌, ◌&&◌, eqb, Bool, true, false, not, cond, List, [], ◌∷◌, ◌++◌, length, replicate, Some, option_map, unwrap_or, slice_set, slice_get, refl, sym, ◌∙◌, ap, subst, arith, inl, inr}
use Rattle.std.proofs.lemmas.Bool.{eqb-true}
use Rattle.hq_value.specs.declared.entry.EntryKind.TheVariants as entry
use Rattle.hq_log.specs.declared.place.Place.{Place}
use Rattle.hq_log.specs.declared.place.Place.TheVariants as place
use Rattle.hq_log.specs.Places.{is_out, passes_at}
use Rattle.hq_log.specs.Pools.{pool, home}
use Rattle.hq_log.specs.Legal.{IsAt, IsLawful}
use Rattle.hq_lane.specs.Lanes.{LaneState, file_of, are_clean}
use Rattle.hq_lane.specs.BucketFiles.{BucketState, is_clean}
use Rattle.hq_history.specs.declared.noted.Deposit.TheVariants.{Nothing}
use Rattle.hq_history.specs.History.{entries_of}
use Rattle.hq_pool.specs.declared.slot.Slot.{Slot}
use Rattle.hq_pool.specs.declared.slot.Slot.TheVariants as slot
use Rattle.hq_pool.specs.Slots as slots
use Rattle.hq_catalog.specs.Asks.{MayAdopt, MayBack}
use Rattle.hq_catalog.specs.Lanes.{IsHeld}
use Rattle.hq_catalog.specs.State.{TableState, CatState, table_in, unmade, no_slots, places_in}
use Rattle.hq_catalog.specs.History.{history}
use Rattle.hq_catalog.specs.CatStep.{noted}
use Rattle.hq_catalog.specs.Kept.{IsCatalogue, IsAtHome, IsOwn, slot_at, home_slot, owes}
use Rattle.hq_catalog.proofs.History.{history-entries}
use Rattle.hq_catalog.proofs.Quiet.{Keeps}
use Rattle.hq_snap.proofs.Elements.{below_or}
use Rattle.hq_catalog.proofs.Moves.{with_parts, entry_by, with_slot, moved, own_lane}

-- the slot at a place
pub slot_of_place : (ss : List (Slot LaneState)) (n : ℕ) (p : Place) → slice_get (slots.places ss) n ≡ Some p → (slots.place_of (slot_at ss n) ≡ p) × (n < length ss)
slot_of_place [] n p e = cc
slot_of_place (x ∷ ss) zero p e = (cc, omega arith)
slot_of_place (x ∷ ss) (suc n) p e = (let r = slot_of_place ss n p e in (r.0, omega (arith, r.1)))

pub out_slot : (s : Slot LaneState) (k : ℕ) → slots.place_of s ≡ place.Out k → s ≡ slot.Out k
out_slot (slot.Out j) k e = cc
out_slot slot.Unborn k e = cc
out_slot (slot.Clean l) k e = cc
out_slot (slot.Dirty l) k e = cc
out_slot (slot.Sweeping j) k e = cc

pub swept_slot : (s : Slot LaneState) (k : ℕ) → slots.place_of s ≡ place.Sweeping k → s ≡ slot.Sweeping k
swept_slot (slot.Sweeping j) k e = cc
swept_slot slot.Unborn k e = cc
swept_slot (slot.Clean l) k e = cc
swept_slot (slot.Dirty l) k e = cc
swept_slot (slot.Out j) k e = cc

unborn_at : (k n : ℕ) (p : Place) → slice_get (slots.places {T = LaneState} (replicate k slot.Unborn)) n ≡ Some p → p ≡ place.Unborn
unborn_at zero n p e = cc
unborn_at (suc k) zero p e = cc
unborn_at (suc k) (suc n) p e = unborn_at k n p e

-- no lane is out of a table that isn't made
no_place : (n : ℕ) (p : Place) → slice_get (slots.places no_slots) n ≡ Some p → p ≡ place.Unborn
unfolding no_slots
no_place n p e = unborn_at 64 n p e

past_end : (ts : List TableState) (t : ℕ) → length ts ≤ t → table_in ts t ≡ unmade
past_end [] t h = refl
past_end (x ∷ xs) zero h = absurd (omega arith)
past_end (x ∷ xs) (suc t) h = past_end xs t (omega arith)

-- where the log says that a session has a lane
pub record IsThere (c : CatState) (t n : ℕ) (s : Slot LaneState) : Type 0 where
  pub made : t < length c.tables
  pub within : n < length (table_in c.tables t).slots
  pub at_place : slice_get (places_in c.tables t) n ≡ Some (slots.place_of s)
  pub is_slot : slot_at (table_in c.tables t).slots n ≡ s

there : (told : Bool) (c : CatState) (t n : ℕ) (s : Slot LaneState) → IsCatalogue told c → IsAt (entries_of (history told c)) t n (slots.place_of s) → slots.place_of s ≢ place.Unborn
    → ((x : Slot LaneState) → slots.place_of x ≡ slots.place_of s → x ≡ s) → IsThere c t n s
there told c t n s ok at born same =
    let p : slice_get (places_in c.tables t) n ≡ Some (slots.place_of s) = ap (λ ps. slice_get ps n) (ok.places t ∙ ap (λ es. pool es t) (sym (history-entries told c))) ∙ at in
    let g = slot_of_place (table_in c.tables t).slots n (slots.place_of s) p in
    let made : t < length c.tables = (elim (below_or t (length c.tables)) [
      | inl h ↦ h
      | inr h ↦ absurd (born (no_place n (slots.place_of s) (ap (λ (x : TableState). slice_get (slots.places x.slots) n) (sym (past_end c.tables t h)) ∙ p)))
    ]) in
    record { made = made; within = g.1; at_place = p; is_slot = same (slot_at (table_in c.tables t).slots n) g.0 }

pub out_there : (told : Bool) (c : CatState) (k t n : ℕ) → IsCatalogue told c → IsAt (entries_of (history told c)) t n (place.Out k) → IsThere c t n (slot.Out k)
out_there told c k t n ok at = there told c t n (slot.Out k) ok at (λ e. cc) (λ x e. out_slot x k e)

pub swept_there : (told : Bool) (c : CatState) (k t n : ℕ) → IsCatalogue told c → IsAt (entries_of (history told c)) t n (place.Sweeping k) → IsThere c t n (slot.Sweeping k)
swept_there told c k t n ok at = there told c t n (slot.Sweeping k) ok at (λ e. cc) (λ x e. swept_slot x k e)

-- the log says the same as the history
pub at_log : (told : Bool) (c : CatState) (t n : ℕ) (p : Place) → IsAt (entries_of (history told c)) t n p → IsAt c.log t n p
at_log told c t n p at = subst (λ es. IsAt es t n p) (history-entries told c) at

-- a lane that was swept is the session's to write
pub adopted : (told : Bool) (c : CatState) (k m : ℕ) (l : LaneState) → IsCatalogue told c → MayAdopt told k (history told c) l
    → Keeps told c (with_parts c.marks (slice_set c.tables l.table (with_slot (table_in c.tables l.table) l.number (slot.Out k))) (c.log ++ entry_by k m (entry.Adopt l.table l.number) ∷ []) c.changes c.grown)
    (noted k m (entry.Adopt l.table l.number) Nothing)
adopted told c k m l ok may = moved told c k m (entry.Adopt l.table l.number) l.table l.number (slot.Out k) ok (swept_there told c k l.table l.number ok may.swept).made
    (at_log told c l.table l.number (place.Sweeping k) may.swept) (λ e. cc) refl refl (λ u ps. refl) (λ h. tt)

clean_file : (f : BucketState) → is_clean f ≡ true → (f.torn ≡ false) × (f.good ≡ f.base)
clean_file f e = by f.torn f.good f.base e
  where
    by : (torn : Bool) (good base : ℕ) → (not torn && eqb good base) ≡ true → (torn ≡ false) × (good ≡ base)
    by true good base e = cc
    by false good base e = (refl, eqb-true good base e)

both_true : (a b : Bool) → (a && b) ≡ true → (a ≡ true) × (b ≡ true)
both_true true b e = (refl, e)
both_true false b e = cc

all_clean : (fs : List BucketState) (b : ℕ) → are_clean fs ≡ true → is_clean (file_of fs b) ≡ true
all_clean [] b e = refl
all_clean (f ∷ fs) zero e = (both_true (is_clean f) (are_clean fs) e).0
all_clean (f ∷ fs) (suc b) e = all_clean fs b (both_true (is_clean f) (are_clean fs) e).1

-- a lane that comes home
home_of : (told : Bool) (t n : ℕ) (x : TableState) (l : LaneState) → IsOwn told t n x.seals l → (b : Bool) → are_clean l.files ≡ b → IsAtHome told t n x.seals (cond b (slot.Clean l) (slot.Dirty l))
home_of told t n x l own true e = record { own = own; clean = λ b h. clean_file (file_of l.files b) (all_clean l.files b e) }
home_of told t n x l own false e = own

home_place : (l : LaneState) (b : Bool) → slots.place_of (cond b (slot.Clean l) (slot.Dirty l)) ≡ home b
home_place l true = refl
home_place l false = refl

held : (told : Bool) (c : CatState) (k : ℕ) (l : LaneState) → IsCatalogue told c → IsHeld (entries_of (history told c)) k l → IsThere c l.table l.number (slot.Out k) ⊎ IsThere c l.table l.number (slot.Sweeping k)
held told c k l ok (inl h) = inl (out_there told c k l.table l.number ok h)
held told c k l ok (inr h) = inr (swept_there told c k l.table l.number ok h)

-- where a lane is that comes home
pub record IsBack (c : CatState) (l : LaneState) : Type 0 where
  pub made : l.table < length c.tables
  pub within : l.number < length (table_in c.tables l.table).slots
  pub out : passes_at is_out (places_in c.tables l.table) l.number ≡ true
  pub owes : 1 ≤ owes (slot_at (table_in c.tables l.table).slots l.number)

pub comes_back : (told : Bool) (c : CatState) (k : ℕ) (l : LaneState) → IsCatalogue told c → IsHeld (entries_of (history told c)) k l → IsBack c l
comes_back told c k l ok h = elim (held told c k l ok h) [
  | inl x ↦ record { made = x.made; within = x.within; out = ap (λ o. unwrap_or (option_map is_out o) false) x.at_place; owes = omega (arith, ap owes x.is_slot) }
  | inr x ↦ record { made = x.made; within = x.within; out = ap (λ o. unwrap_or (option_map is_out o) false) x.at_place; owes = omega (arith, ap owes x.is_slot) }
]

lawful_back : (told : Bool) (c : CatState) (k : ℕ) (l : LaneState) (clean : Bool) → IsHeld (entries_of (history told c)) k l → IsLawful (length c.marks) c.log k (entry.Back l.table l.number clean)
lawful_back told c k l clean (inl h) = inl (at_log told c l.table l.number (place.Out k) h)
lawful_back told c k l clean (inr h) = inr (at_log told c l.table l.number (place.Sweeping k) h)

pub backed : (told : Bool) (c : CatState) (k m : ℕ) (l : LaneState) → IsCatalogue told c → MayBack told k (history told c) l
    → Keeps told c (with_parts c.marks (slice_set c.tables l.table (with_slot (table_in c.tables l.table) l.number (home_slot l))) (c.log ++ entry_by k m (entry.Back l.table l.number (are_clean l.files)) ∷ []) c.changes c.grown)
    (noted k m (entry.Back l.table l.number (are_clean l.files)) Nothing)
backed told c k m l ok may =
    let at = comes_back told c k l ok may.held in
    moved told c k m (entry.Back l.table l.number (are_clean l.files)) l.table l.number (home_slot l) ok at.made (lawful_back told c k l (are_clean l.files) may.held) (λ e. cc) refl refl
    (λ u ps. ap (λ p. cond (eqb u l.table) (slice_set ps l.number p) ps) (sym (home_place l (are_clean l.files))))
    (λ h. home_of told l.table l.number (table_in c.tables l.table) l (own_lane told c l ok may.agrees may.no_seal) (are_clean l.files) refl)
