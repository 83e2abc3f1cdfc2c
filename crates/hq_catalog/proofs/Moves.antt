-- Entries that move one lane or none.
use Rattle.std.proofs.Common.{◌≡◌, ◌≢◌, ℕ, ◌<◌, eqb, Bool, false, cond, List, [], ◌∷◌, ◌++◌, length, Option, slice_set, refl, sym, ◌∙◌, ap, subst, arith, inl, inr, eq-eqb, length-append}
use Rattle.std.proofs.lemmas.Bool.{cases_eq}
use Rattle.std.proofs.lemmas.List.{get_or-set_same, get_or-set_other, length-set, map-set}
use Rattle.std.proofs.Math.Seq.{map-set_same}
use Rattle.hq_value.specs.declared.entry.Entry.{Entry}
use Rattle.hq_value.specs.declared.entry.EntryKind.{EntryKind}
use Rattle.hq_value.specs.declared.entry.EntryKind.TheVariants as entry
use Rattle.hq_log.specs.declared.place.Place.{Place}
use Rattle.hq_log.specs.Pools.{places_after}
use Rattle.hq_log.specs.Marks.{marks_after}
use Rattle.hq_log.specs.Legal.{IsLawful}
use Rattle.hq_store.specs.FileStep.{SealState}
use Rattle.hq_lane.specs.Lanes.{LaneState, id_of, HaveNoSeal}
use Rattle.hq_history.specs.declared.noted.Deposit.TheVariants.{Nothing}
use Rattle.hq_history.specs.Deposits.{length_left, bytes_left}
use Rattle.hq_pool.specs.declared.slot.Slot.{Slot}
use Rattle.hq_pool.specs.declared.slot.Slot.TheVariants as slot
use Rattle.hq_pool.specs.Slots as slots
use Rattle.hq_snap.specs.Snaps.{seal_in, change_in}
use Rattle.hq_catalog.specs.declared.kept.Change.{Change}
use Rattle.hq_catalog.specs.declared.kept.Grown.{Grown}
use Rattle.hq_catalog.specs.Lanes.{Agrees, IsGiven, IsGivenClean}
use Rattle.hq_catalog.specs.State.{TableState, CatState, table_in, unmade, places_in, seal_of, change_of}
use Rattle.hq_catalog.specs.History.{history}
use Rattle.hq_catalog.specs.Stands.{is_restart}
use Rattle.hq_catalog.specs.CatStep.{noted}
use Rattle.hq_catalog.specs.Kept.{IsTable, IsAtHome, IsOwn, IsOwnClean, IsCatalogue, slot_at}
use Rattle.hq_catalog.proofs.History.{other_place, nothing_left, none_found, further_changes}
use Rattle.hq_catalog.proofs.Quiet.{Keeps, quiet}

-- one of the tables changes
pub table_same : (ts : List TableState) (t : ℕ) (y : TableState) → t < length ts → table_in (slice_set ts t y) t ≡ y
table_same ts t y h = get_or-set_same ts t y unmade h

pub table_other : (ts : List TableState) (t u : ℕ) (y : TableState) → u ≢ t → table_in (slice_set ts t y) u ≡ table_in ts u
table_other ts t u y d = get_or-set_other ts t u y unmade d

-- a fact of each table
pub each_table : (P : ℕ → TableState → Type 0) (ts : List TableState) (t : ℕ) (y : TableState) → t < length ts → P t y → ((u : ℕ) → u ≢ t → P u (table_in ts u)) → (u : ℕ) → P u (table_in (slice_set ts t y) u)
each_table P ts t y h here others u =
    elim (cases_eq u t) [
      | inl e ↦ subst (λ k. P k (table_in (slice_set ts t y) k)) (sym e) (subst (P t) (sym (table_same ts t y h)) here)
      | inr d ↦ subst (P u) (sym (table_other ts t u y d)) (others u d)
    ]

-- the catalogue of these parts
abbrev pub with_parts : List Bool → List TableState → List Entry → List Change → List Grown → CatState
with_parts ms ts log changes grown = record { marks = ms; tables = ts; log = log; changes = changes; grown = grown }

abbrev pub entry_by : ℕ → ℕ → EntryKind → Entry
entry_by k m kind = record { session = k; statement = m; kind = kind }

-- an entry that changes no table and leaves nothing
pub still : (told : Bool) (c : CatState) (ms : List Bool) (k m : ℕ) (kind : EntryKind) → IsCatalogue told c → ms ≡ marks_after c.marks kind → kind ≢ entry.Commit → is_restart kind ≡ false
    → IsLawful (length c.marks) c.log k kind → ((t : ℕ) (ps : List Place) → places_after t ps k kind ≡ ps)
    → Keeps told c (with_parts ms c.tables (c.log ++ entry_by k m kind ∷ []) c.changes c.grown) (noted k m kind Nothing)
still told c ms k m kind ok new not_commit runs lawful same =
    let d : CatState = with_parts ms c.tables (c.log ++ entry_by k m kind ∷ []) c.changes c.grown in
    quiet told c d (noted k m kind Nothing) ok (record {
      log = refl;
      grown = refl;
      found = λ i lt. refl;
      changes = further_changes (length c.log) (length (c.log ++ entry_by k m kind ∷ [])) c.changes (omega (arith, length-append c.log (entry_by k m kind ∷ []))) ok.changes;
      deposit = nothing_left told d (length c.log) kind not_commit (none_found (length c.log) c.changes ok.changes);
      none = refl;
      lawful = lawful;
      carried = not_commit;
      runs = runs;
      marks = new;
      definitions = refl;
      places = λ t. sym (same t (places_in c.tables t));
      tables = ok.tables;
      few = ok.few;
      seals = λ t n b. refl;
      changed = λ t n b. refl;
    })

-- what holds of each lane where one of them moves
pub homes_set : (told : Bool) (t : ℕ) (seals : List (List (Option SealState))) (ss : List (Slot LaneState)) (n : ℕ) (s : Slot LaneState)
    → length ss ≡ 64 → ((i : ℕ) → i < 64 → IsAtHome told t i seals (slot_at ss i)) → (n < 64 → IsAtHome told t n seals s) → (i : ℕ) → i < 64 → IsAtHome told t i seals (slot_at (slice_set ss n s) i)
homes_set told t seals ss n s len homes home i h =
    elim (cases_eq i n) [
      | inl e ↦ subst (λ j. IsAtHome told t j seals (slot_at (slice_set ss n s) j)) (sym e)
          (subst (IsAtHome told t n seals) (sym (get_or-set_same ss n s slot.Unborn (omega (arith, e, h, len)))) (home (omega (arith, e, h))))
      | inr d ↦ subst (IsAtHome told t i seals) (sym (get_or-set_other ss n i s slot.Unborn d)) (homes i h)
    ]

-- the table where one of its lanes is here
abbrev pub with_slot : TableState → ℕ → Slot LaneState → TableState
with_slot x n s = record x { slots = slice_set x.slots n s }

pub table_moved : (told : Bool) (t : ℕ) (x : TableState) (n : ℕ) (s : Slot LaneState) → IsTable told t x → (n < 64 → IsAtHome told t n x.seals s) → IsTable told t (with_slot x n s)
table_moved told t x n s ok home = record {
  number = ok.number;
  slots = length-set x.slots n s ∙ ok.slots;
  seals = ok.seals;
  rows = ok.rows;
  changed = ok.changed;
  places = ok.places;
  homes = homes_set told t x.seals x.slots n s ok.slots ok.homes home;
}

-- an entry moves lane n of table t
pub moved : (told : Bool) (c : CatState) (k m : ℕ) (kind : EntryKind) (t n : ℕ) (s : Slot LaneState) → IsCatalogue told c → t < length c.tables → IsLawful (length c.marks) c.log k kind
    → kind ≢ entry.Commit → is_restart kind ≡ false → c.marks ≡ marks_after c.marks kind
    → ((u : ℕ) (ps : List Place) → places_after u ps k kind ≡ cond (eqb u t) (slice_set ps n (slots.place_of s)) ps) → (n < 64 → IsAtHome told t n (table_in c.tables t).seals s)
    → Keeps told c (with_parts c.marks (slice_set c.tables t (with_slot (table_in c.tables t) n s)) (c.log ++ entry_by k m kind ∷ []) c.changes c.grown) (noted k m kind Nothing)
moved told c k m kind t n s ok made lawful not_commit runs marks after home =
    let x = table_in c.tables t in
    let y : TableState = with_slot x n s in
    let ts = slice_set c.tables t y in
    let d : CatState = with_parts c.marks ts (c.log ++ entry_by k m kind ∷ []) c.changes c.grown in
    quiet told c d (noted k m kind Nothing) ok (record {
      log = refl;
      grown = refl;
      found = λ i lt. refl;
      changes = further_changes (length c.log) (length (c.log ++ entry_by k m kind ∷ [])) c.changes (omega (arith, length-append c.log (entry_by k m kind ∷ []))) ok.changes;
      deposit = nothing_left told d (length c.log) kind not_commit (none_found (length c.log) c.changes ok.changes);
      none = refl;
      lawful = lawful;
      carried = not_commit;
      runs = runs;
      marks = marks;
      definitions = map-set_same (λ (z : TableState). z.def) c.tables t y unmade refl;
      places = each_table (λ u (z : TableState). slots.places z.slots ≡ places_after u (places_in c.tables u) k kind) c.tables t y made
          (map-set slots.place_of x.slots n s ∙ sym (after t (slots.places x.slots) ∙ ap (λ b. cond b (slice_set (slots.places x.slots) n (slots.place_of s)) (slots.places x.slots)) (eq-eqb t t refl)))
          (λ u e. sym (after u (places_in c.tables u) ∙ ap (λ b. cond b (slice_set (places_in c.tables u) n (slots.place_of s)) (places_in c.tables u)) (other_place u t e)));
      tables = λ u lt. each_table (λ i (z : TableState). i < length c.tables → IsTable told i z) c.tables t y made (λ h. table_moved told t x n s (ok.tables t made) home) (λ i e h. ok.tables i h) u (omega (arith, lt, length-set c.tables t y));
      few = omega (arith, ok.few, length-set c.tables t y);
      seals = λ u i b. each_table (λ j (z : TableState). seal_in z.seals i b ≡ seal_of c.tables (id_of j i b)) c.tables t y made refl (λ j e. refl) u;
      changed = λ u i b. each_table (λ j (z : TableState). change_in z.changed i b ≡ change_of c.tables (id_of j i b)) c.tables t y made refl (λ j e. refl) u;
    })

-- a lane that begins with the bytes under its table's seals is one that an answer gives
pub agrees : (told : Bool) (c : CatState) (t n : ℕ) (l : LaneState) → IsCatalogue told c → IsOwn told t n (table_in c.tables t).seals l → Agrees told (history told c) l
agrees told c t n l ok own =
    record {
      base = λ b h. own.base b h ∙ (ok.seals t n b).len ∙ ap (length_left (history told c)) (sym (ap (λ x. id_of x l.number b) own.table ∙ ap (λ x. id_of t x b) own.number));
      bytes = λ e b h. own.bytes e b h ∙ (ok.seals t n b).bytes e ∙ ap (bytes_left (history told c)) (sym (ap (λ x. id_of x l.number b) own.table ∙ ap (λ x. id_of t x b) own.number));
    }

pub given : (told : Bool) (c : CatState) (t n : ℕ) (l : LaneState) → IsCatalogue told c → IsOwn told t n (table_in c.tables t).seals l → IsGiven told (history told c) t n l
given told c t n l ok own = record { table = own.table; number = own.number; agrees = agrees told c t n l ok own; no_seal = own.no_seal }

pub given_clean : (told : Bool) (c : CatState) (t n : ℕ) (l : LaneState) → IsCatalogue told c → IsOwnClean told t n (table_in c.tables t).seals l → IsGivenClean told (history told c) t n l
given_clean told c t n l ok own = record { given = given told c t n l ok own.own; clean = own.clean }

-- a lane that agrees with the history begins with the bytes under its table's seals
pub own_lane : (told : Bool) (c : CatState) (l : LaneState) → IsCatalogue told c → Agrees told (history told c) l → HaveNoSeal l.files → IsOwn told l.table l.number (table_in c.tables l.table).seals l
own_lane told c l ok a none = record {
  table = refl;
  number = refl;
  base = λ b h. a.base b h ∙ sym (ok.seals l.table l.number b).len;
  bytes = λ e b h. a.bytes e b h ∙ sym ((ok.seals l.table l.number b).bytes e);
  no_seal = none;
}
