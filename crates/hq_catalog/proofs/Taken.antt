-- Lanes that are committed come home.
use Rattle.std.proofs.Common.{◌≡◌, ◌≢◌, ◌⊎◌, ℕ, zero, suc, ◌+◌, ◌<◌, ◌≤◌, ◌&&◌, Bool, true, false, cond, List, [], ◌∷◌, ◌++◌, length, Option, Some, None, option_map, unwrap_or, slice_index_or, slice_set, get_or, refl, sym, ◌∙◌, ap, subst, arith, inl, inr}
use Rattle.std.specs.List.{sum_by}
use Rattle.std.proofs.lemmas.Bool.{cases_eq, lt-ltb, le-ltb}
use Rattle.std.proofs.lemmas.List.{get_or_default, get_or_past, get_or-set_same, get_or-set_other, length-set, length-map}
use Rattle.std.proofs.lemmas.List.Sums.{sum_by-set}
use Rattle.hq_log.specs.declared.place.Place.{Place}
use Rattle.hq_log.specs.declared.place.Place.TheVariants as place
use Rattle.hq_log.specs.Places.{is_out, passes_at}
use Rattle.hq_store.specs.FileStep.{SealState}
use Rattle.hq_lane.specs.Lanes.{LaneState, id_of, file_of, AreSealed}
use Rattle.hq_lane.specs.BucketFiles.{BucketState, base_bytes, published, IsSound, no_file}
use Rattle.hq_pool.specs.declared.slot.Slot.{Slot}
use Rattle.hq_pool.specs.declared.slot.Slot.TheVariants as slot
use Rattle.hq_pool.specs.Slots as slots
use Rattle.hq_snap.specs.Snaps.{seal_at, seal_in, seal_len, seal_bytes, lane_in, change_at, change_in, changes_in}
use Rattle.hq_snap.proofs.Elements.{below_or}
use Rattle.hq_catalog.specs.State.{TableState, table_in, unmade, places_in, seal_of, change_of}
use Rattle.hq_catalog.specs.Kept.{IsTable, IsAtHome, IsOwn, IsOwnClean, slot_at, owes, owed_by, owed}
use Rattle.hq_catalog.specs.Commits.{grows, is_lane, the_lane, the_file, seal_by, place_by, home_by, file_below, file_by, AreCommitted, AreTaken, Begins, IsReady, IsTaken, IsWell, place_at}
use Rattle.hq_catalog.proofs.Committed.{at_get, get_place, is_itself}
use Rattle.hq_catalog.proofs.Growths.{lane_is}
use Rattle.hq_catalog.proofs.Moves.{with_slot, table_same, table_other, each_table}
use Rattle.hq_catalog.proofs.Sealed.{fresh_of, published_bytes, published_clean, published_fresh, published_len}

-- each of the 16 files is one of the first 16
within_16 : (fs : List BucketState) (b : ℕ) → b < 16 → file_below 16 fs b ≡ Some (file_of fs b)
within_16 fs b lt = ap (λ y. cond y (Some (file_of fs b)) None) (lt-ltb b 16 lt)

past_16 : (fs : List BucketState) (b : ℕ) → 16 ≤ b → file_below 16 fs b ≡ None
past_16 fs b le = ap (λ y. cond y (Some (file_of fs b)) None) (le-ltb b 16 le)

-- and no other has grown
seal_all : (fs : List BucketState) (b : ℕ) (s : Option SealState) → length fs ≡ 16 → seal_by (file_below 16 fs b) s ≡ seal_by (Some (file_of fs b)) s
seal_all fs b s many = elim (below_or b 16) [
  | inl lt ↦ ap (λ o. seal_by o s) (within_16 fs b lt)
  | inr le ↦ ap (λ o. seal_by o s) (past_16 fs b le) ∙ sym (ap (λ (f : BucketState). seal_by (Some f) s) (get_or_past fs b (no_file (id_of 0 0 0)) (omega (arith, le, many))))
]

place_all : (fs : List BucketState) (b p x : ℕ) → length fs ≡ 16 → place_by p (file_below 16 fs b) x ≡ place_by p (Some (file_of fs b)) x
place_all fs b p x many = elim (below_or b 16) [
  | inl lt ↦ ap (λ o. place_by p o x) (within_16 fs b lt)
  | inr le ↦ ap (λ o. place_by p o x) (past_16 fs b le) ∙ sym (ap (λ (f : BucketState). place_by p (Some f) x) (get_or_past fs b (no_file (id_of 0 0 0)) (omega (arith, le, many))))
]

-- what holds of each lane of a list where one of them changes
each_lane : {A : Type 0} (P : ℕ → A → Type 0) (xs : List A) (n : ℕ) (y d : A) → n < length xs → P n y → ((i : ℕ) → i ≢ n → P i (get_or xs i d)) → (i : ℕ) → P i (get_or (slice_set xs n y) i d)
each_lane {A} P xs n y d h here others i = elim (cases_eq i n) [
  | inl e ↦ subst (λ k. P k (get_or (slice_set xs n y) k d)) (sym e) (subst (P n) (sym (get_or-set_same xs n y d h)) here)
  | inr e ↦ subst (P i) (sym (get_or-set_other xs n i y d e)) (others i e)
]

-- a lane at home whose seals stay
own_row : (told : Bool) (t n : ℕ) (old new : List (List (Option SealState))) (l : LaneState) → lane_in new n ≡ lane_in old n → IsOwn told t n old l → IsOwn told t n new l
own_row told t n old new l e own = record {
  table = own.table;
  number = own.number;
  base = λ b h. own.base b h ∙ sym (ap (λ row. seal_len (seal_at row b)) e);
  bytes = λ y b h. own.bytes y b h ∙ sym (ap (λ row. seal_bytes (seal_at row b)) e);
  no_seal = own.no_seal;
}

home_row : (told : Bool) (t n : ℕ) (old new : List (List (Option SealState))) (s : Slot LaneState) → lane_in new n ≡ lane_in old n → IsAtHome told t n old s → IsAtHome told t n new s
home_row told t n old new slot.Unborn e h = λ b. ap (λ row. seal_at row b) e ∙ h b
home_row told t n old new (slot.Clean l) e h = record { own = own_row told t n old new l e h.own; clean = h.clean }
home_row told t n old new (slot.Dirty l) e h = own_row told t n old new l e h
home_row told t n old new (slot.Out k) e h = tt
home_row told t n old new (slot.Sweeping k) e h = tt

-- the table with the lane at home
abbrev pub taken_table : TableState → ℕ → LaneState → List (Option SealState) → List (List ℕ) → TableState
taken_table x n new seals changed = record x { slots = slice_set x.slots n (slot.Clean new); seals = slice_set x.seals n seals; changed = changed }

module _ (files seals : Bool) (p : ℕ) (l new : LaneState) (x : TableState) (row : List (Option SealState)) (changed : List (List ℕ))
    (ok : IsTable (files && seals) l.table x) (within : l.number < 64) (begins : Begins (files && seals) x.seals l) (sealed : AreSealed files seals l.files)
    (many : length l.files ≡ 16) (sound : (b : ℕ) → b < 16 → IsSound files seals (file_of l.files b))
    (done : AreCommitted 16 p l new (lane_in x.seals l.number) row x.changed changed) where
  abbrev tell : Bool
  tell = files && seals

  abbrev y : TableState
  y = taken_table x l.number new row changed

  in_seals : l.number < length x.seals
  in_seals = omega (arith, within, ok.seals)

  row_is : lane_in y.seals l.number ≡ row
  row_is = get_or-set_same x.seals l.number row [] in_seals

  seal_is : (b : ℕ) → seal_in y.seals l.number b ≡ seal_by (Some (file_of l.files b)) (seal_in x.seals l.number b)
  seal_is b = ap (λ r. seal_at r b) row_is ∙ done.seals b ∙ seal_all l.files b (seal_in x.seals l.number b) many

  file_is : (b : ℕ) → b < 16 → file_of new.files b ≡ published (file_of l.files b)
  file_is b h = done.files b h ∙ ap (λ o. file_by o (file_of l.files b)) (within_16 l.files b h)

  comes_clean : IsOwnClean tell l.table l.number y.seals new
  comes_clean = record {
    own = record {
      table = done.table;
      number = done.number;
      base = λ b h. ap (λ (f : BucketState). f.base) (file_is b h) ∙ published_len files seals (file_of l.files b) (seal_in x.seals l.number b) (sound b h) (sealed b h) (begins.base b h) ∙ ap seal_len (sym (seal_is b));
      bytes = λ t b h. ap base_bytes (file_is b h) ∙ published_bytes files seals (file_of l.files b) (seal_in x.seals l.number b) (sound b h) (sealed b h) t (begins.bytes t b h) ∙ ap seal_bytes (sym (seal_is b));
      no_seal = λ b h. ap (λ (f : BucketState). f.fresh) (file_is b h) ∙ published_fresh (file_of l.files b);
    };
    clean = λ b h. (let c = published_clean files seals (file_of l.files b) (sound b h) (sealed b h) in (
      ap (λ (f : BucketState). f.torn) (file_is b h) ∙ c.0,
      ap (λ (f : BucketState). f.good) (file_is b h) ∙ c.1 ∙ ap (λ (f : BucketState). f.base) (sym (file_is b h)),
    ));
  }

  rows_by : (n : ℕ) → n < 64 → length (lane_in y.seals n) ≡ 16
  rows_by = each_lane (λ n (r : List (Option SealState)). n < 64 → length r ≡ 16) x.seals l.number row [] in_seals (λ h. done.many ∙ ok.rows l.number h) (λ n d h. ok.rows n h)

  places_by : (n : ℕ) → n < 64 → length (changes_in changed n) ≡ 16
  places_by n h = elim (cases_eq n l.number) [
    | inl e ↦ ap (λ k. length (changes_in changed k)) e ∙ done.row ∙ ok.places l.number within
    | inr d ↦ ap (λ (c : List ℕ). length c) (done.others n d) ∙ ok.places n h
  ]

  homes_by : (n : ℕ) → n < 64 → IsAtHome tell l.table n y.seals (slot_at y.slots n)
  homes_by = each_lane (λ n (s : Slot LaneState). n < 64 → IsAtHome tell l.table n y.seals s) x.slots l.number (slot.Clean new) slot.Unborn (omega (arith, within, ok.slots)) (λ h. comes_clean)
      (λ n d h. home_row tell l.table n x.seals y.seals (slot_at x.slots n) (get_or-set_other x.seals l.number n row [] d) (ok.homes n h))

  new_table : IsTable tell l.table y
  new_table = record {
    number = ok.number;
    slots = length-set x.slots l.number (slot.Clean new) ∙ ok.slots;
    seals = length-set x.seals l.number row ∙ ok.seals;
    rows = rows_by;
    changed = done.rows ∙ ok.changed;
    places = places_by;
    homes = homes_by;
  }

  -- the lane comes home
  pub taken_one : (m : ℕ) → p ≡ suc m → IsTaken tell m l x y
  taken_one m is = record {
    def = refl;
    table = new_table;
    home = new;
    slots = refl;
    seals = seal_is;
    changed = λ b. done.places b ∙ place_all l.files b p (change_in x.changed l.number b) many ∙ ap (λ q. place_by q (Some (file_of l.files b)) (change_in x.changed l.number b)) is;
    other_seals = λ n b d. ap (λ r. seal_at r b) (get_or-set_other x.seals l.number n row [] d);
    other_changed = λ n b d. ap (λ c. change_at c b) (done.others n d);
  }

-- where a lane is that is out
passes_within : (test : Place → Bool) (ps : List Place) (n : ℕ) → passes_at test ps n ≡ true → n < length ps
passes_within test [] n e = cc
passes_within test (p ∷ ps) zero e = omega arith
passes_within test (p ∷ ps) (suc n) e = (let h = passes_within test ps n e in omega (arith, h))

passes_is : (test : Place → Bool) (ps : List Place) (n : ℕ) → n < length ps → passes_at test ps n ≡ test (get_or ps n place.Unborn)
passes_is test ps n lt = ap (λ o. unwrap_or (option_map test o) false) (at_get ps n lt)

pub out_within : (x : TableState) (n : ℕ) → passes_at is_out (slots.places x.slots) n ≡ true → n < length x.slots
out_within x n e = (let h = passes_within is_out (slots.places x.slots) n e in omega (arith, h, length-map x.slots slots.place_of))

out_place : (x : TableState) (n : ℕ) → n < length x.slots → passes_at is_out (slots.places x.slots) n ≡ is_out (slots.place_of (slot_at x.slots n))
out_place x n lt = passes_is is_out (slots.places x.slots) n (omega (arith, lt, length-map x.slots slots.place_of)) ∙ ap is_out (get_place x.slots n)

-- the table as a call leaves it, which reads it as `x'`
pub table_taken : (files seals : Bool) (m p n : ℕ) (l new : LaneState) (x' x y : TableState) (old row : List (Option SealState)) (changed : List (List ℕ)) → x' ≡ x → p ≡ suc m → n ≡ l.number → old ≡ slice_index_or x'.seals n old
    → y ≡ taken_table x' n new row changed → IsTable (files && seals) l.table x → passes_at is_out (slots.places x.slots) l.number ≡ true → Begins (files && seals) x.seals l → AreSealed files seals l.files
    → length l.files ≡ 16 → ((b : ℕ) → b < 16 → IsSound files seals (file_of l.files b)) → AreCommitted 16 p l new old row x'.changed changed → IsTaken (files && seals) m l x y
table_taken files seals m p n l new x' x y old row changed same place_is here old_is is ok out begins sealed many sound done =
    let tell : Bool = files && seals in
    let ok' : IsTable tell l.table x' = subst (IsTable tell l.table) (sym same) ok in
    let within : l.number < 64 = (let h = out_within x l.number out in omega (arith, h, ok.slots)) in
    let read : old ≡ lane_in x'.seals l.number = old_is ∙ ap (λ k. slice_index_or x'.seals k old) here ∙ get_or_default x'.seals l.number old [] (omega (arith, within, ok'.seals)) in
    let one : IsTaken tell m l x' (taken_table x' l.number new row changed) =
    taken_one files seals p l new x' row changed ok' within (subst (λ (z : TableState). Begins tell z.seals l) (sym same) begins) sealed many sound
    (subst (λ r. AreCommitted 16 p l new r row x'.changed changed) read done) m place_is in
    subst (λ (z : TableState). IsTaken tell m l z y) same (subst (IsTaken tell m l x') (sym (is ∙ ap (λ k. taken_table x' k new row changed) here)) one)

-- a lane of which these hold was such as a Commit needs
pub lane_well : (files seals : Bool) (l : LaneState) → AreSealed files seals l.files → length l.files ≡ 16 → ((b : ℕ) → b < 16 → IsSound files seals (file_of l.files b))
    → ((b : ℕ) → b < 16 → (file_of l.files b).id ≡ id_of l.table l.number b) → IsWell (files && seals) l
lane_well files seals l sealed many sound ids = record {
  sixteen = many;
  ids = λ i h. ids i (omega (arith, h, many));
  order = λ b. elim (below_or b 16) [
    | inl h ↦ (sound b h).base_le_good
    | inr h ↦ subst (λ (f : BucketState). f.base ≤ f.good) (sym (get_or_past l.files b (no_file (id_of 0 0 0)) (omega (arith, h, many)))) (omega arith)
  ];
  fresh = λ b e. elim (below_or b 16) [
    | inl h ↦ fresh_of files seals (file_of l.files b) (sound b h) (sealed b h) e
    | inr h ↦ (let z : false ≡ true = ap grows (sym (get_or_past l.files b (no_file (id_of 0 0 0)) (omega (arith, h, many)))) ∙ e in absurd (let w = z in cc))
  ];
}

-- a lane behind others
first_lane : Option LaneState → Option LaneState → Option LaneState
first_lane None o = o
first_lane (Some l) o = Some l

lane_by : (x : LaneState) (xs : List LaneState) (l : LaneState) (t n : ℕ) (y : Bool) → the_lane (xs ++ l ∷ []) t n ≡ first_lane (the_lane xs t n) (the_lane (l ∷ []) t n)
    → cond y (Some x) (the_lane (xs ++ l ∷ []) t n) ≡ first_lane (cond y (Some x) (the_lane xs t n)) (the_lane (l ∷ []) t n)
unfolding first_lane
lane_by x xs l t n true e = refl
lane_by x xs l t n false e = e

lane_last : (xs : List LaneState) (l : LaneState) (t n : ℕ) → the_lane (xs ++ l ∷ []) t n ≡ first_lane (the_lane xs t n) (the_lane (l ∷ []) t n)
unfolding first_lane
lane_last [] l t n = refl
lane_last (x ∷ xs) l t n = lane_by x xs l t n (is_lane t n x) (lane_last xs l t n)

lane_here : (xs : List LaneState) (l : LaneState) → the_lane xs l.table l.number ≡ None → the_lane (xs ++ l ∷ []) l.table l.number ≡ Some l
unfolding first_lane
lane_here xs l none = lane_last xs l l.table l.number ∙ ap (λ o. first_lane o (the_lane (l ∷ []) l.table l.number)) none ∙ ap (λ y. cond y (Some l) None) (is_itself l)

first_none : (o : Option LaneState) → first_lane o None ≡ o
unfolding first_lane
first_none None = refl
first_none (Some l) = refl

not_lane : (l : LaneState) (t n : ℕ) → (t ≢ l.table) ⊎ (n ≢ l.number) → (y : Bool) → is_lane t n l ≡ y → cond y (Some l) None ≡ None
not_lane l t n d true e = (let r = lane_is t n l e in absurd (elim d [ inl x ↦ x (sym r.0) | inr x ↦ x (sym r.1) ]))
not_lane l t n d false e = refl

lane_elsewhere : (xs : List LaneState) (l : LaneState) (t n : ℕ) → (t ≢ l.table) ⊎ (n ≢ l.number) → the_lane (xs ++ l ∷ []) t n ≡ the_lane xs t n
lane_elsewhere xs l t n d = lane_last xs l t n ∙ ap (first_lane (the_lane xs t n)) (not_lane l t n d (is_lane t n l) refl) ∙ first_none (the_lane xs t n)

-- one lane after others
module _ (told : Bool) (m : ℕ) (done : List LaneState) (l : LaneState) (old now : List TableState) (y : TableState)
    (before : AreTaken told m done old now) (apart : the_lane done l.table l.number ≡ None) (made : l.table < length now) (within : l.number < length (table_in now l.table).slots)
    (taken : IsTaken told m l (table_in now l.table) y) where
  abbrev next : List TableState
  next = slice_set now l.table y

  -- what another lane has
  record IsSame (t n : ℕ) : Type 0 where
    pub place : place_at next t n ≡ place_at now t n
    pub seal : (b : ℕ) → seal_of next (id_of t n b) ≡ seal_of now (id_of t n b)
    pub change : (b : ℕ) → change_of next (id_of t n b) ≡ change_of now (id_of t n b)

  in_table : (x : TableState) (n : ℕ) → x ≡ y → n ≢ l.number → (slots.place_of (slot_at x.slots n) ≡ place_at now l.table n) × ((b : ℕ) → seal_in x.seals n b ≡ seal_in (table_in now l.table).seals n b)
      × ((b : ℕ) → change_in x.changed n b ≡ change_in (table_in now l.table).changed n b)
  in_table x n e d = (
    ap (λ (z : TableState). slots.place_of (slot_at z.slots n)) e ∙ ap (λ ss. slots.place_of (slot_at ss n)) taken.slots
        ∙ ap slots.place_of (get_or-set_other (table_in now l.table).slots l.number n (slot.Clean taken.home) slot.Unborn d),
    λ b. ap (λ (z : TableState). seal_in z.seals n b) e ∙ taken.other_seals n b d,
    λ b. ap (λ (z : TableState). change_in z.changed n b) e ∙ taken.other_changed n b d,
  )

  here : table_in next l.table ≡ y
  here = table_same now l.table y made

  elsewhere_in : (n : ℕ) → n ≢ l.number → IsSame l.table n
  elsewhere_in n d = (let r = in_table (table_in next l.table) n here d in record { place = r.0; seal = r.1; change = r.2 })

  in_other : (t n : ℕ) → t ≢ l.table → IsSame t n
  in_other t n d = (let e = table_other now l.table t y d in record {
    place = ap (λ (z : TableState). slots.place_of (slot_at z.slots n)) e;
    seal = λ b. ap (λ (z : TableState). seal_in z.seals n b) e;
    change = λ b. ap (λ (z : TableState). change_in z.changed n b) e;
  })

  elsewhere : (t n : ℕ) → (t ≢ l.table) ⊎ (n ≢ l.number) → IsSame t n
  elsewhere t n (inl d) = in_other t n d
  elsewhere t n (inr d) = elim (cases_eq t l.table) [
    | inl e ↦ subst (λ u. IsSame u n) (sym e) (elsewhere_in n d)
    | inr e ↦ in_other t n e
  ]

  each_by : (P : ℕ → ℕ → Type 0) → ((t n : ℕ) → (t ≢ l.table) ⊎ (n ≢ l.number) → P t n) → P l.table l.number → (t n : ℕ) → P t n
  each_by P others at t n = elim (cases_eq t l.table) [
    | inl e ↦ elim (cases_eq n l.number) [
      | inl f ↦ subst (λ u. P u n) (sym e) (subst (P l.table) (sym f) at)
      | inr f ↦ others t n (inr f)
    ]
    | inr e ↦ others t n (inl e)
  ]

  now_seal : (b : ℕ) → seal_of now (id_of l.table l.number b) ≡ seal_of old (id_of l.table l.number b)
  now_seal b = before.seals l.table l.number b ∙ ap (λ o. seal_by (the_file o b) (seal_of old (id_of l.table l.number b))) apart

  now_change : (b : ℕ) → change_of now (id_of l.table l.number b) ≡ change_of old (id_of l.table l.number b)
  now_change b = before.changed l.table l.number b ∙ ap (λ o. place_by (suc m) (the_file o b) (change_of old (id_of l.table l.number b))) apart

  lane_now : the_lane (done ++ l ∷ []) l.table l.number ≡ Some l
  lane_now = lane_here done l apart

  pub taken_more : AreTaken told m (done ++ l ∷ []) old next
  taken_more = record {
    many = length-set now l.table y ∙ before.many;
    defs = each_table (λ t (z : TableState). z.def ≡ (table_in old t).def) now l.table y made (taken.def ∙ before.defs l.table) (λ t d. before.defs t);
    tables = λ t lt. each_table (λ u (z : TableState). u < length now → IsTable told u z) now l.table y made (λ h. taken.table) (λ u d h. before.tables u h) t (omega (arith, lt, length-set now l.table y));
    places = each_by (λ t n. place_at next t n ≡ home_by (the_lane (done ++ l ∷ []) t n) (place_at old t n))
        (λ t n d. (elsewhere t n d).place ∙ before.places t n ∙ ap (λ o. home_by o (place_at old t n)) (sym (lane_elsewhere done l t n d)))
        (ap (λ (z : TableState). slots.place_of (slot_at z.slots l.number)) here ∙ ap (λ ss. slots.place_of (slot_at ss l.number)) taken.slots
        ∙ ap slots.place_of (get_or-set_same (table_in now l.table).slots l.number (slot.Clean taken.home) slot.Unborn within)
        ∙ ap (λ o. home_by o (place_at old l.table l.number)) (sym lane_now));
    seals = λ t n b. each_by (λ u i. seal_of next (id_of u i b) ≡ seal_by (the_file (the_lane (done ++ l ∷ []) u i) b) (seal_of old (id_of u i b)))
        (λ u i d. (elsewhere u i d).seal b ∙ before.seals u i b ∙ ap (λ o. seal_by (the_file o b) (seal_of old (id_of u i b))) (sym (lane_elsewhere done l u i d)))
        (ap (λ (z : TableState). seal_in z.seals l.number b) here ∙ taken.seals b ∙ ap (seal_by (Some (file_of l.files b))) (now_seal b)
        ∙ ap (λ o. seal_by (the_file o b) (seal_of old (id_of l.table l.number b))) (sym lane_now)) t n;
    changed = λ t n b. each_by (λ u i. change_of next (id_of u i b) ≡ place_by (suc m) (the_file (the_lane (done ++ l ∷ []) u i) b) (change_of old (id_of u i b)))
        (λ u i d. (elsewhere u i d).change b ∙ before.changed u i b ∙ ap (λ o. place_by (suc m) (the_file o b) (change_of old (id_of u i b))) (sym (lane_elsewhere done l u i d)))
        (ap (λ (z : TableState). change_in z.changed l.number b) here ∙ taken.changed b ∙ ap (place_by (suc m) (Some (file_of l.files b))) (now_change b)
        ∙ ap (λ o. place_by (suc m) (the_file o b) (change_of old (id_of l.table l.number b))) (sym lane_now)) t n;
  }

-- no lane yet
pub taken_none : (told : Bool) (m : ℕ) (ts : List TableState) → ((t : ℕ) → t < length ts → IsTable told t (table_in ts t)) → AreTaken told m [] ts ts
taken_none told m ts ok = record { many = refl; defs = λ t. refl; tables = ok; places = λ t n. refl; seals = λ t n b. refl; changed = λ t n b. refl }

owes_out : (s : Slot LaneState) → is_out (slots.place_of s) ≡ true → 1 ≤ owes s
owes_out slot.Unborn e = cc
owes_out (slot.Clean l) e = cc
owes_out (slot.Dirty l) e = cc
owes_out (slot.Out k) e = omega arith
owes_out (slot.Sweeping k) e = omega arith

-- a lane that comes home pays an entry
pub paid_one : (ts : List TableState) (t n : ℕ) (y : TableState) (l : LaneState) → t < length ts → passes_at is_out (places_in ts t) n ≡ true → y.slots ≡ slice_set (table_in ts t).slots n (slot.Clean l) → owed (slice_set ts t y) + 1 ≤ owed ts
paid_one ts t n y l made out is =
    let within = out_within (table_in ts t) n out in
    let owes_one = owes_out (slot_at (table_in ts t).slots n) (sym (out_place (table_in ts t) n within) ∙ out) in
    omega (arith, sum_by-set owed_by ts t y unmade made, ap (sum_by owes) is, sum_by-set owes (table_in ts t).slots n (slot.Clean l) slot.Unborn within, owes_one)

-- one is owed for it
pub owed_one : (files seals : Bool) (ts : List TableState) (l : LaneState) → IsReady files seals ts l → 1 ≤ owed ts
owed_one files seals ts l ready =
    let pays = paid_one ts l.table l.number (with_slot (table_in ts l.table) l.number (slot.Clean l)) l ready.made ready.out refl in
    omega (arith, pays)

-- a lane that was ready is so still, where others came home
pub ready_still : (files seals : Bool) (m : ℕ) (done : List LaneState) (l : LaneState) (old now : List TableState) → AreTaken (files && seals) m done old now → the_lane done l.table l.number ≡ None
    → ((t : ℕ) → t < length old → IsTable (files && seals) t (table_in old t)) → IsReady files seals old l → IsReady files seals now l
ready_still files seals m done l old now taken apart tables ready =
    let made : l.table < length now = omega (arith, ready.made, taken.many) in
    let old_within = out_within (table_in old l.table) l.number ready.out in
    let within : l.number < length (table_in now l.table).slots = omega (arith, old_within, (tables l.table ready.made).slots, (taken.tables l.table made).slots) in
    let place_is : place_at now l.table l.number ≡ place_at old l.table l.number = taken.places l.table l.number ∙ ap (λ o. home_by o (place_at old l.table l.number)) apart in
    let seal_is : (b : ℕ) → seal_of old (id_of l.table l.number b) ≡ seal_of now (id_of l.table l.number b) = λ b. sym (taken.seals l.table l.number b ∙ ap (λ o. seal_by (the_file o b) (seal_of old (id_of l.table l.number b))) apart) in
    record {
      made = made;
      out = out_place (table_in now l.table) l.number within ∙ ap is_out place_is ∙ sym (out_place (table_in old l.table) l.number old_within) ∙ ready.out;
      begins = record {
        base = λ b h. ready.begins.base b h ∙ ap seal_len (seal_is b);
        bytes = λ t b h. ready.begins.bytes t b h ∙ ap seal_bytes (seal_is b);
      };
      sealed = ready.sealed;
    }
