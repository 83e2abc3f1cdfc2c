-- Tables that are made, and columns that are added.
use Rattle.std.proofs.Common.{◌≡◌, ℕ, zero, suc, ◌+◌, ◌<◌, ◌||◌, Bool, true, false, not, cond, List, [], ◌∷◌, ◌++◌, length, map, replicate, Option, Some, None, MatchOption, slice_set, slice_get, position, refl, sym, ◌∙◌, ap, subst, arith, inl, inr, length-append}
use Rattle.std.specs.List.{list_any}
use Rattle.std.proofs.lemmas.Bool.{cases_eq}
use Rattle.std.proofs.lemmas.Cmp.{nat_list_eq_equiv}
use Rattle.std.proofs.lemmas.List.{get_or_past, length-set, length-replicate, length-map, map-append}
use Rattle.std.proofs.Math.ListN.{get_or-append}
use Rattle.std.proofs.Math.Seq.{get_or-append_seam}
use Rattle.hq_value.specs.declared.entry.Entry.{Entry}
use Rattle.hq_value.specs.declared.entry.EntryKind.TheVariants as entry
use Rattle.hq_value.specs.declared.table.Column.{Column}
use Rattle.hq_value.specs.Tables.{Definition, same_names, with_column, column_refusal}
use Rattle.hq_store.specs.FileStep.{SealState}
use Rattle.hq_lane.specs.Lanes.{LaneState, id_of}
use Rattle.hq_history.specs.declared.noted.Deposit.TheVariants.{Made, Added}
use Rattle.hq_history.specs.Deposits.{tables_left, with_added, is_new, MayMake, MayAdd}
use Rattle.hq_pool.specs.declared.slot.Slot.{Slot}
use Rattle.hq_pool.specs.declared.slot.Slot.TheVariants as slot
use Rattle.hq_pool.specs.Slots as slots
use Rattle.hq_pool.proofs.Found.{position-map}
use Rattle.hq_snap.specs.Snaps.{seal_in, change_in, lane_in, changes_in}
use Rattle.hq_snap.proofs.Elements.{below_or, get_same}
use Rattle.hq_catalog.specs.declared.kept.Change.TheVariants as change
use Rattle.hq_catalog.specs.Files.{is_named, def_in, table_named}
use Rattle.hq_catalog.specs.State.{TableState, CatState, table_in, unmade, no_slots, places_in, seal_of, change_of}
use Rattle.hq_catalog.specs.History.{history, deposit_of}
use Rattle.hq_catalog.specs.CatStep.{noted}
use Rattle.hq_catalog.specs.Kept.{IsCatalogue, IsTable, IsAtHome, slot_at}
use Rattle.hq_catalog.proofs.History.{found_last, changes_stay, push_changes, further_changes}
use Rattle.hq_catalog.proofs.Quiet.{Keeps, quiet}
use Rattle.hq_catalog.proofs.Moves.{with_parts, entry_by, each_table}

-- the names of tables, and their definitions, are asked alike
pub any_named : (name : List ℕ) (ts : List TableState) → list_any (same_names name) (map (λ (t : TableState). t.def.name) ts) ≡ list_any (λ (d : Definition). same_names d.name name) (map (λ (t : TableState). t.def) ts)
any_named name [] = refl
any_named name (t ∷ ts) = λ i. nat_list_eq_equiv.symm name t.def.name i || any_named name ts i

pub place_named : (name : List ℕ) (ts : List TableState) → position (same_names name) (map (λ (t : TableState). t.def.name) ts) ≡ position (is_named name) (map (λ (t : TableState). t.def) ts)
place_named name ts =
    position-map (λ (t : TableState). t.def.name) (same_names name) ts
    ∙ (λ i. position (λ (t : TableState). nat_list_eq_equiv.symm name t.def.name i) ts)
    ∙ sym (position-map (λ (t : TableState). t.def) (is_named name) ts)

-- a fact of each table, where one is pushed
pub each_pushed : (P : ℕ → TableState → Type 0) (ts : List TableState) (x : TableState) → P (length ts) x → ((u : ℕ) → P u (table_in ts u)) → (u : ℕ) → P u (table_in (ts ++ x ∷ []) u)
each_pushed P ts x here others u =
    elim (below_or u (length ts)) [
      | inl h ↦ subst (P u) (sym (get_or-append ts (x ∷ []) unmade u h)) (others u)
      | inr h ↦ elim (cases_eq u (length ts)) [
        | inl e ↦ subst (λ k. P k (table_in (ts ++ x ∷ []) k)) (sym e) (subst (P (length ts)) (sym (get_or-append_seam ts x [] unmade)) here)
        | inr d ↦ subst (P u) (get_or_past ts u unmade h ∙ sym (get_or_past (ts ++ x ∷ []) u unmade (omega (arith, h, d, length-append ts (x ∷ []))))) (others u)
      ]
    ]

-- a table of which no lane was lent
pub record IsNew (number : ℕ) (def : Definition) (x : TableState) : Type 0 where
  pub has_number : x.number ≡ number
  pub has_def : x.def ≡ def
  pub slots : x.slots ≡ replicate 64 slot.Unborn
  pub seals : x.seals ≡ replicate 64 (replicate 16 None)
  pub changed : x.changed ≡ replicate 64 (replicate 16 0)

no_slots_are : no_slots ≡ replicate 64 slot.Unborn
unfolding no_slots
no_slots_are = refl

none_in : (k n b : ℕ) → seal_in (replicate k (replicate 16 None)) n b ≡ None
none_in zero n b = refl
none_in (suc k) zero b = get_same 16 b None
none_in (suc k) (suc n) b = none_in k n b

zero_in : (k n b : ℕ) → change_in (replicate k (replicate 16 0)) n b ≡ 0
zero_in zero n b = refl
zero_in (suc k) zero b = get_same 16 b 0
zero_in (suc k) (suc n) b = zero_in k n b

row_in : (k n : ℕ) → n < k → length (lane_in (replicate k (replicate 16 None)) n) ≡ 16
row_in zero n h = absurd (omega arith)
row_in (suc k) zero h = length-replicate {A = Option SealState} 16 None
row_in (suc k) (suc n) h = row_in k n (omega arith)

changes_row : (k n : ℕ) → n < k → length (changes_in (replicate k (replicate 16 0)) n) ≡ 16
changes_row zero n h = absurd (omega arith)
changes_row (suc k) zero h = length-replicate {A = ℕ} 16 0
changes_row (suc k) (suc n) h = changes_row k n (omega arith)

new_table : (told : Bool) (number : ℕ) (def : Definition) (x : TableState) → IsNew number def x → IsTable told number x
new_table told number def x new = record {
  number = new.has_number;
  slots = ap length new.slots ∙ length-replicate {A = Slot LaneState} 64 slot.Unborn;
  seals = ap length new.seals ∙ length-replicate {A = List (Option SealState)} 64 (replicate 16 None);
  rows = λ n h. ap (λ (s : List (List (Option SealState))). length (lane_in s n)) new.seals ∙ row_in 64 n h;
  changed = ap length new.changed ∙ length-replicate {A = List ℕ} 64 (replicate 16 0);
  places = λ n h. ap (λ (s : List (List ℕ)). length (changes_in s n)) new.changed ∙ changes_row 64 n h;
  homes = λ n h. subst (IsAtHome told number n x.seals) (sym (ap (λ (ss : List (Slot LaneState)). slot_at ss n) new.slots ∙ get_same 64 n slot.Unborn))
      (λ b. ap (λ (s : List (List (Option SealState))). seal_in s n b) new.seals ∙ none_in 64 n b);
}

table_pushed : (told : Bool) (ts : List TableState) (x : TableState) → IsTable told (length ts) x → ((u : ℕ) → u < length ts → IsTable told u (table_in ts u)) → (u : ℕ) → u < length ts + 1 → IsTable told u (table_in (ts ++ x ∷ []) u)
table_pushed told ts x here others u lt =
    elim (cases_eq u (length ts)) [
      | inl e ↦ subst (λ k. IsTable told k (table_in (ts ++ x ∷ []) k)) (sym e) (subst (IsTable told (length ts)) (sym (get_or-append_seam ts x [] unmade)) here)
      | inr d ↦ (let h : u < length ts = omega (arith, lt, d) in subst (IsTable told u) (sym (get_or-append ts (x ∷ []) unmade u h)) (others u h))
    ]

-- a table is made
pub made : (told : Bool) (c : CatState) (k m : ℕ) (def : Definition) (x : TableState) → IsCatalogue told c → IsNew (length c.tables) def x → MayMake (tables_left (history told c)) def
    → Keeps told c (with_parts c.marks (c.tables ++ x ∷ []) (c.log ++ entry_by k m entry.Create ∷ []) (c.changes ++ change.Made (length c.log) def ∷ []) c.grown) (noted k m entry.Create (Made def))
made told c k m def x ok new may =
    let ts = c.tables ++ x ∷ [] in
    let log : List Entry = c.log ++ entry_by k m entry.Create ∷ [] in
    let one = change.Made (length c.log) def in
    let d : CatState = with_parts c.marks ts log (c.changes ++ one ∷ []) c.grown in
    let longer : length log ≡ length c.log + 1 = length-append c.log (entry_by k m entry.Create ∷ []) in
    let many : length ts ≡ length c.tables + 1 = length-append c.tables (x ∷ []) in
    let few : length c.tables < 64 = omega (arith, may.room, ap (λ (ds : List Definition). length ds) ok.definitions, length-map c.tables (λ (t : TableState). t.def)) in
    let past : table_in c.tables (length c.tables) ≡ unmade = get_or_past c.tables (length c.tables) unmade (omega arith) in
    let table = new_table told (length c.tables) def x new in
    quiet told c d (noted k m entry.Create (Made def)) ok (record {
      log = refl;
      grown = refl;
      found = λ i lt. changes_stay i c.changes one (length c.log) refl lt;
      changes = push_changes (length log) c.changes one (further_changes (length c.log) (length log) c.changes (omega (arith, longer)) ok.changes) (omega (arith, longer));
      deposit = ap deposit_of (found_last (length c.log) c.changes one ok.changes refl);
      none = refl;
      lawful = tt;
      carried = (refl, may);
      runs = refl;
      marks = refl;
      definitions = map-append (λ (t : TableState). t.def) c.tables (x ∷ []) ∙ ap (λ (y : Definition). map (λ (t : TableState). t.def) c.tables ++ y ∷ []) new.has_def;
      places = each_pushed (λ u (z : TableState). slots.places z.slots ≡ places_in c.tables u) c.tables x
          (ap (λ (ss : List (Slot LaneState)). slots.places ss) (new.slots ∙ sym no_slots_are) ∙ ap (λ (z : TableState). slots.places z.slots) (sym past)) (λ u. refl);
      tables = λ u lt. table_pushed told c.tables x table ok.tables u (omega (arith, lt, many));
      few = omega (arith, many, few);
      seals = λ u i b. each_pushed (λ j (z : TableState). seal_in z.seals i b ≡ seal_of c.tables (id_of j i b)) c.tables x
          (ap (λ (s : List (List (Option SealState))). seal_in s i b) new.seals ∙ none_in 64 i b ∙ ap (λ (z : TableState). seal_in z.seals i b) (sym past)) (λ j. refl) u;
      changed = λ u i b. each_pushed (λ j (z : TableState). change_in z.changed i b ≡ change_of c.tables (id_of j i b)) c.tables x
          (ap (λ (s : List (List ℕ)). change_in s i b) new.changed ∙ zero_in 64 i b ∙ ap (λ (z : TableState). change_in z.changed i b) (sym past)) (λ j. refl) u;
    })

defs_added : (ts : List TableState) (t : ℕ) (column : Column) (y : TableState) → t < length ts → y.def ≡ with_column (table_in ts t).def column
    → map (λ (z : TableState). z.def) (slice_set ts t y) ≡ with_added t column (map (λ (z : TableState). z.def) ts)
defs_added [] t column y h e = absurd (omega arith)
defs_added (x ∷ xs) zero column y h e = ap (λ (d : Definition). d ∷ map (λ (z : TableState). z.def) xs) e
defs_added (x ∷ xs) (suc t) column y h e = ap (λ (ds : List Definition). x.def ∷ ds) (defs_added xs t column y (omega arith) e)

get_some : (ts : List TableState) (t : ℕ) → t < length ts → slice_get (map (λ (z : TableState). z.def) ts) t ≡ Some (table_in ts t).def
get_some [] t h = absurd (omega arith)
get_some (x ∷ xs) zero h = refl
get_some (x ∷ xs) (suc t) h = get_some xs t (omega arith)

-- a column is added to a table
pub added : (told : Bool) (c : CatState) (k m t : ℕ) (column : Column) → IsCatalogue told c → t < length c.tables → column_refusal (table_in c.tables t).def column ≡ None
    → Keeps told c (with_parts c.marks (slice_set c.tables t (record (table_in c.tables t) { def = with_column (table_in c.tables t).def column })) (c.log ++ entry_by k m entry.Alter ∷ []) (c.changes ++ change.Added (length c.log) t column ∷ []) c.grown)
    (noted k m entry.Alter (Added t column))
added told c k m t column ok made may =
    let x = table_in c.tables t in
    let y : TableState = record x { def = with_column x.def column } in
    let ts = slice_set c.tables t y in
    let log : List Entry = c.log ++ entry_by k m entry.Alter ∷ [] in
    let one = change.Added (length c.log) t column in
    let d : CatState = with_parts c.marks ts log (c.changes ++ one ∷ []) c.grown in
    let longer : length log ≡ length c.log + 1 = length-append c.log (entry_by k m entry.Alter ∷ []) in
    let is = ok.tables t made in
    let table : IsTable told t y = record { number = is.number; slots = is.slots; seals = is.seals; rows = is.rows; changed = is.changed; places = is.places; homes = is.homes } in
    let may_add : MayAdd (tables_left (history told c)) t column =
    subst (λ (ds : List Definition). MayAdd ds t column) ok.definitions (subst (λ o. MatchOption o ⊥ (λ (def : Definition). column_refusal def column ≡ None)) (sym (get_some c.tables t made)) may) in
    quiet told c d (noted k m entry.Alter (Added t column)) ok (record {
      log = refl;
      grown = refl;
      found = λ i lt. changes_stay i c.changes one (length c.log) refl lt;
      changes = push_changes (length log) c.changes one (further_changes (length c.log) (length log) c.changes (omega (arith, longer)) ok.changes) (omega (arith, longer));
      deposit = ap deposit_of (found_last (length c.log) c.changes one ok.changes refl);
      none = refl;
      lawful = tt;
      carried = (refl, may_add);
      runs = refl;
      marks = refl;
      definitions = defs_added c.tables t column y made refl;
      places = each_table (λ u (z : TableState). slots.places z.slots ≡ places_in c.tables u) c.tables t y made refl (λ u e. refl);
      tables = λ u lt. each_table (λ i (z : TableState). i < length c.tables → IsTable told i z) c.tables t y made (λ h. table) (λ i e h. ok.tables i h) u (omega (arith, lt, length-set c.tables t y));
      few = omega (arith, ok.few, length-set c.tables t y);
      seals = λ u i b. each_table (λ j (z : TableState). seal_in z.seals i b ≡ seal_of c.tables (id_of j i b)) c.tables t y made refl (λ j e. refl) u;
      changed = λ u i b. each_table (λ j (z : TableState). change_in z.changed i b ≡ change_of c.tables (id_of j i b)) c.tables t y made refl (λ j e. refl) u;
    })

-- whether a table has the name
pub found_name : (told : Bool) (c : CatState) (names : List (List ℕ)) (name : List ℕ) (b : Bool) → IsCatalogue told c → names ≡ map (λ (t : TableState). t.def.name) c.tables → list_any (same_names name) names ≡ b
    → is_new name (tables_left (history told c)) ≡ not b
found_name told c names name b ok same e =
    ap (λ (ds : List Definition). not (list_any (λ (d : Definition). same_names d.name name) ds)) (sym ok.definitions) ∙ ap not (sym (any_named name c.tables) ∙ ap (list_any (same_names name)) (sym same) ∙ e)

-- which table has it
pub found_table : (told : Bool) (c : CatState) (names : List (List ℕ)) (name : List ℕ) (o : Option ℕ) → IsCatalogue told c → names ≡ map (λ (t : TableState). t.def.name) c.tables → position (same_names name) names ≡ o
    → table_named name (tables_left (history told c)) ≡ o
found_table told c names name o ok same e = ap (λ (ds : List Definition). position (is_named name) ds) (sym ok.definitions) ∙ sym (place_named name c.tables) ∙ ap (position (same_names name)) (sym same) ∙ e

no_such : (b : Bool) → not b ≡ true → b ≡ false
no_such true e = cc
no_such false e = refl

-- the name of the table that is made is put behind the others
pub names_pushed : (told : Bool) (c : CatState) (names new : List (List ℕ)) (name : List ℕ) (x : TableState) → IsCatalogue told c → names ≡ map (λ (t : TableState). t.def.name) c.tables → is_new name (tables_left (history told c)) ≡ true
    → x.def.name ≡ name → new ≡ cond (list_any (same_names name) names) names (names ++ name ∷ []) → new ≡ map (λ (t : TableState). t.def.name) (c.tables ++ x ∷ [])
names_pushed told c names new name x ok same is_new_name has e =
    let none : list_any (same_names name) names ≡ false = no_such (list_any (same_names name) names) (sym (found_name told c names name (list_any (same_names name) names) ok same refl) ∙ is_new_name) in
    e ∙ ap (λ b. cond b names (names ++ name ∷ [])) none ∙ ap (λ (l : List (List ℕ)). l ++ name ∷ []) same
    ∙ ap (λ (y : List ℕ). map (λ (t : TableState). t.def.name) c.tables ++ y ∷ []) (sym has) ∙ sym (map-append (λ (t : TableState). t.def.name) c.tables (x ∷ []))

-- as many tables are made as there are
pub tables_count : (told : Bool) (c : CatState) → IsCatalogue told c → length (tables_left (history told c)) ≡ length c.tables
tables_count told c ok = sym (ap (λ (ds : List Definition). length ds) ok.definitions) ∙ length-map c.tables (λ (t : TableState). t.def)

get_def : (ts : List TableState) (t : ℕ) → t < length ts → def_in (map (λ (z : TableState). z.def) ts) t ≡ (table_in ts t).def
get_def [] t h = absurd (omega arith)
get_def (x ∷ xs) zero h = refl
get_def (x ∷ xs) (suc t) h = get_def xs t (omega arith)

-- a table's definition is the one that was made
pub def_made : (told : Bool) (c : CatState) (t : ℕ) → IsCatalogue told c → t < length c.tables → def_in (tables_left (history told c)) t ≡ (table_in c.tables t).def
def_made told c t ok h = ap (λ (ds : List Definition). def_in ds t) (sym ok.definitions) ∙ get_def c.tables t h
