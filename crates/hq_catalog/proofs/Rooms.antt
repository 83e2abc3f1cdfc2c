-- How much lanes that are out may still add.
use Rattle.std.proofs.Common.{◌≡◌, ℕ, suc, ◌+◌, ◌*◌, ◌<◌, ◌≤◌, Bool, true, List, [], ◌∷◌, length, replicate, slice_set, refl, sym, ◌∙◌, ap, arith}
use Rattle.std.specs.List.{sum_by}
use Rattle.std.proofs.lemmas.List.Sums.{sum_by-cons, sum_by-set}
use Rattle.hq_value.specs.declared.entry.Entry.{Entry}
use Rattle.hq_log.specs.Pools.{pool}
use Rattle.hq_lane.specs.Lanes.{LaneState}
use Rattle.hq_pool.specs.declared.slot.Slot.{Slot}
use Rattle.hq_pool.specs.declared.slot.Slot.TheVariants as slot
use Rattle.hq_catalog.specs.declared.kept.Change.{Change}
use Rattle.hq_catalog.specs.declared.kept.Grown.{Grown}
use Rattle.hq_catalog.specs.State.{TableState, CatState, table_in, unmade, no_slots, places_in}
use Rattle.hq_catalog.specs.Kept.{IsCatalogue, slot_at, owes, owed_by, owed}
use Rattle.hq_catalog.proofs.Moves.{with_parts, with_slot}

owes_two : (s : Slot LaneState) → owes s ≤ 2
owes_two slot.Unborn = omega arith
owes_two (slot.Clean l) = omega arith
owes_two (slot.Dirty l) = omega arith
owes_two (slot.Out k) = omega arith
owes_two (slot.Sweeping k) = omega arith

slots_owe : (ss : List (Slot LaneState)) → sum_by owes ss ≤ 2 * length ss
slots_owe [] = omega arith
slots_owe (s ∷ ss) = omega (arith, sum_by-cons owes s ss, owes_two s, slots_owe ss)

tables_owe : (ts : List TableState) → ((t : ℕ) → t < length ts → length (table_in ts t).slots ≡ 64) → owed ts ≤ 128 * length ts
tables_owe [] h = omega arith
tables_owe (x ∷ xs) h = omega (arith, sum_by-cons owed_by x xs, slots_owe x.slots, h 0 (omega arith), tables_owe xs (λ t lt. h (suc t) (omega arith)))

-- no more than two entries for each of 64 lanes of 64 tables
pub owed_few : (told : Bool) (c : CatState) → IsCatalogue told c → owed c.tables ≤ 8192
owed_few told c ok = omega (arith, tables_owe c.tables (λ t h. (ok.tables t h).slots), ok.few)

-- where one lane moves
pub owed_moved : (ts : List TableState) (t n : ℕ) (s : Slot LaneState) → t < length ts → n < length (table_in ts t).slots
    → owed (slice_set ts t (with_slot (table_in ts t) n s)) + owes (slot_at (table_in ts t).slots n) ≡ owed ts + owes s
owed_moved ts t n s made within =
    let y : TableState = with_slot (table_in ts t) n s in
    omega (arith, sum_by-set owed_by ts t y unmade made, sum_by-set owes (table_in ts t).slots n s slot.Unborn within)

-- catalogues of the same parts
pub parts_are : (ms : List Bool) (ts : List TableState) (l l' : List Entry) (x x' : List Change) (g g' : List Grown) → l ≡ l' → x ≡ x' → g ≡ g' → with_parts ms ts l x g ≡ with_parts ms ts l' x' g'
parts_are ms ts l l' x x' g g' e f h = λ i. with_parts ms ts (e i) (f i) (h i)

no_places : (t : ℕ) → places_in [] t ≡ pool [] t
unfolding no_slots
no_places t = refl

-- the first catalogue
pub first : (told : Bool) (nodes : ℕ) (ms : List Bool) → ms ≡ replicate nodes true → length ms ≡ nodes → IsCatalogue told (with_parts ms [] [] [] [])
first told nodes ms e len = record {
  few = omega arith;
  legal = tt;
  deposits = tt;
  own = tt;
  marks = e ∙ ap (λ n. replicate n true) (sym len);
  definitions = refl;
  places = no_places;
  tables = λ t h. absurd (omega arith);
  seals = λ t n b. record { len = refl; bytes = λ _. refl; some = λ h. absurd (omega arith); none = λ _. refl; id = λ z f. cc };
  changed = λ t n b. refl;
  changes = tt;
  grown = tt;
}
