-- What a look sees.
use Rattle.std.proofs.Common.{◌≡◌, ◌≢◌, ◌⊎◌, inl, inr, ℕ, zero, suc, ◌+◌, ◌<◌, ◌≤◌, Bool, true, false, cond, ltb, List, [], ◌∷◌, ◌++◌, length, map, take, Option, Some, None, slice_index_or, refl, sym, ◌∙◌, ap, subst, arith, position, slice_set, ◌||◌, length-append}
use Rattle.std.specs.List.{AllByRecursion, IsDistinct, list_any}
use Rattle.std.proofs.lemmas.Bool.{cases_eq}
use Rattle.std.proofs.lemmas.Bool.Decides.{nat_tests}
use Rattle.std.proofs.lemmas.Cmp.{nat_list_eq_equiv}
use Rattle.std.proofs.lemmas.List.{append-nil, map-append, length-map, get_or-map, get_or-set_same, get_or-set_other}
use Rattle.std.proofs.lemmas.List.Folds.{list_any_at}
use Rattle.std.proofs.lemmas.List.Quantifiers.{position-Some}
use Rattle.std.proofs.lemmas.Map.Keys.{IsDistinct-head, IsDistinct-tail}
use Rattle.hq_value.specs.Tables.{Definition, same_names}
use Rattle.hq_store.specs.FileStep.{SealState}
use Rattle.hq_lane.specs.Lanes.{id_of}
use Rattle.hq_history.specs.declared.noted.Noted.{Noted}
use Rattle.hq_snap.specs.declared.scope.Scope.{Scope}
use Rattle.hq_snap.specs.declared.scope.Have.{Have}
use Rattle.hq_snap.specs.Scopes.{is_in}
use Rattle.hq_snap.specs.Snaps.{TableSnapState, seal_in, kept_if, change_in}
use Rattle.hq_snap.specs.Caches.{snap_at, no_snap}
use Rattle.hq_snap.proofs.Elements.{pushed, below_or}
use Rattle.hq_catalog.specs.Files.{last_change}
use Rattle.hq_catalog.specs.State.{TableState, CatState, table_in, unmade, seal_of}
use Rattle.hq_catalog.specs.History.{history}
use Rattle.hq_catalog.specs.Stands.{HasSeal}
use Rattle.hq_catalog.specs.Looks.{numbers_in, have_at, IsSealOf, IsSealIf, IsSeen, AreSeen}
use Rattle.hq_catalog.specs.Copies.{IsCopyOf, IsCopy, AddsIf, HasTables, AreWanted, is_marked, name_at}
use Rattle.hq_catalog.specs.Kept.{IsCatalogue}
use Rattle.hq_catalog.proofs.Makes.{def_made}

number_step : (b : Bool) (n : ℕ) (xs ys zs : List ℕ) → xs ≡ ys ++ zs → cond b (n ∷ xs) xs ≡ cond b (n ∷ ys) ys ++ zs
number_step true n xs ys zs e = ap (λ l. n ∷ l) e
number_step false n xs ys zs e = e

-- one table more
pub numbers-push : (scope : Scope) (from : ℕ) (defs : List Definition) (def : Definition)
    → numbers_in scope from (defs ++ def ∷ []) ≡ numbers_in scope from defs ++ cond (is_in scope def.name) ((from + length defs) ∷ []) []
numbers-push scope from [] def = ap (λ i. cond (is_in scope def.name) (i ∷ []) []) (let e : from ≡ from + 0 = omega arith in e)
numbers-push scope from (x ∷ xs) def = number_step (is_in scope x.name) from (numbers_in scope (suc from) (xs ++ def ∷ [])) (numbers_in scope (suc from) xs) (cond (is_in scope def.name) ((from + suc (length xs)) ∷ []) [])
    (numbers-push scope (suc from) xs def ∙ ap (λ i. numbers_in scope (suc from) xs ++ cond (is_in scope def.name) (i ∷ []) []) (let e : suc from + length xs ≡ from + suc (length xs) = omega arith in e))

abbrev pub numbers_of : List TableSnapState → List ℕ
numbers_of snaps = map (λ (s : TableSnapState). s.table) snaps

abbrev pub defs_of : List TableState → List Definition
defs_of tables = map (λ (t : TableState). t.def) tables

-- the tables before `t` are copied
pub record AreCopies (scope : Scope) (have : List Have) (tables : List TableState) (t : ℕ) (snaps : List TableSnapState) : Type 0 where
  pub numbers : numbers_of snaps ≡ numbers_in scope 0 (defs_of (take t tables))
  pub each : (i : ℕ) → i < length snaps → IsCopy have tables (snap_at snaps i)

take_next : (tables : List TableState) (t : ℕ) → t < length tables → take (suc t) tables ≡ take t tables ++ table_in tables t ∷ []
take_next [] t h = absurd (omega arith)
take_next (x ∷ xs) zero h = refl
take_next (x ∷ xs) (suc t) h = ap (λ (l : List TableState). x ∷ l) (take_next xs t (omega arith))

take_suc : (tables : List TableState) (t : ℕ) → t < length tables → take (t + 1) tables ≡ take t tables ++ table_in tables t ∷ []
take_suc tables t h = ap (λ i. take i tables) (let e : t + 1 ≡ suc t = omega arith in e) ∙ take_next tables t h

length_take : (tables : List TableState) (t : ℕ) → t ≤ length tables → length (take t tables) ≡ t
length_take [] zero h = refl
length_take [] (suc t) h = absurd (omega arith)
length_take (x ∷ xs) zero h = refl
length_take (x ∷ xs) (suc t) h = ap suc (length_take xs t (omega arith))

each_more : (have : List Have) (tables : List TableState) (snaps : List TableSnapState) (s : TableSnapState) → ((i : ℕ) → i < length snaps → IsCopy have tables (snap_at snaps i)) → IsCopy have tables s
    → (i : ℕ) → i < length (snaps ++ s ∷ []) → IsCopy have tables (snap_at (snaps ++ s ∷ []) i)
each_more have tables snaps s each one i h = pushed (λ j (z : TableSnapState). IsCopy have tables z) no_snap snaps s (length snaps) refl one each i (omega (arith, h, length-append snaps (s ∷ [])))

copies_by : (scope : Scope) (have : List Have) (tables : List TableState) (t : ℕ) (old new : List TableSnapState) (b : Bool) → is_in scope (table_in tables t).def.name ≡ b → t < length tables → HasTables tables
    → AreCopies scope have tables t old → AddsIf b have (table_in tables t) old new → AreCopies scope have tables (t + 1) new
copies_by scope have tables t old new b e h ok are adds =
    let x = table_in tables t in
    let defs : defs_of (take (t + 1) tables) ≡ defs_of (take t tables) ++ x.def ∷ [] = ap defs_of (take_suc tables t h) ∙ map-append (λ (z : TableState). z.def) (take t tables) (x ∷ []) in
    let at : length (defs_of (take t tables)) ≡ t = length-map (take t tables) (λ (z : TableState). z.def) ∙ length_take tables t (omega arith) in
    let from : 0 + length (defs_of (take t tables)) ≡ t = omega (arith, at) in
    let numbers : numbers_in scope 0 (defs_of (take (t + 1) tables)) ≡ numbers_of old ++ cond b (t ∷ []) [] =
    ap (numbers_in scope 0) defs ∙ numbers-push scope 0 (defs_of (take t tables)) x.def ∙ ap (λ (l : List ℕ). l ++ cond (is_in scope x.def.name) ((0 + length (defs_of (take t tables))) ∷ []) []) (sym are.numbers)
    ∙ ap (λ i. numbers_of old ++ cond (is_in scope x.def.name) (i ∷ []) []) from ∙ ap (λ y. numbers_of old ++ cond y (t ∷ []) []) e in
    go b numbers adds
  where
    go : (b : Bool) → numbers_in scope 0 (defs_of (take (t + 1) tables)) ≡ numbers_of old ++ cond b (t ∷ []) [] → AddsIf b have (table_in tables t) old new → AreCopies scope have tables (t + 1) new
    go true numbers adds =
        let number : adds.0.table ≡ t = adds.1.table ∙ ok.numbers t h in
        record {
          numbers = ap numbers_of adds.2 ∙ map-append (λ (z : TableSnapState). z.table) old (adds.0 ∷ []) ∙ ap (λ i. numbers_of old ++ i ∷ []) number ∙ sym numbers;
          each = subst (λ (l : List TableSnapState). (i : ℕ) → i < length l → IsCopy have tables (snap_at l i)) (sym adds.2)
              (each_more have tables old adds.0 are.each (record { within = omega (arith, number, h); copy = subst (λ i. IsCopyOf have (table_in tables i) adds.0) (sym number) adds.1 }));
        }
    go false numbers adds = record {
      numbers = ap numbers_of adds ∙ sym (append-nil (numbers_of old)) ∙ sym numbers;
      each = subst (λ (l : List TableSnapState). (i : ℕ) → i < length l → IsCopy have tables (snap_at l i)) (sym adds) are.each;
    }

pub copies_more : (scope : Scope) (have : List Have) (tables : List TableState) (t : ℕ) (old new : List TableSnapState) → t < length tables → HasTables tables
    → AreCopies scope have tables t old → AddsIf (is_in scope (table_in tables t).def.name) have (table_in tables t) old new → AreCopies scope have tables (t + 1) new
copies_more scope have tables t old new h ok are adds = copies_by scope have tables t old new (is_in scope (table_in tables t).def.name) refl h ok are adds

-- the same, where flags say which tables are wanted
pub wanted_more : (scope : Scope) (have : List Have) (tables : List TableState) (names : List (List ℕ)) (flags : List Bool) (t : ℕ) (old new : List TableSnapState) → t < length tables → HasTables tables
    → names ≡ map (λ (x : TableState). x.def.name) tables → AreWanted scope names flags → AreCopies scope have tables t old → AddsIf (is_marked flags t) have (table_in tables t) old new → AreCopies scope have tables (t + 1) new
wanted_more scope have tables names flags t old new h ok same wanted are adds =
    let many : length names ≡ length tables = ap (λ (l : List (List ℕ)). length l) same ∙ length-map tables (λ (x : TableState). x.def.name) in
    let name : name_at names t ≡ (table_in tables t).def.name = ap (λ (l : List (List ℕ)). name_at l t) same ∙ get_or-map (λ (x : TableState). x.def.name) tables t unmade [] h in
    let is : is_marked flags t ≡ is_in scope (table_in tables t).def.name = wanted t (omega (arith, h, many)) ∙ ap (is_in scope) name in
    copies_more scope have tables t old new h ok are (subst (λ b. AddsIf b have (table_in tables t) old new) is adds)

all_at : {A : Type 0} (P : A → Type 0) (xs : List A) (i : ℕ) (d : A) → AllByRecursion P xs → i < length xs → P (slice_index_or xs i d)
all_at P [] i d a h = absurd (omega arith)
all_at P (x ∷ xs) zero d a h = a.0
all_at P (x ∷ xs) (suc i) d a h = all_at P xs i d a.1 (omega arith)

-- names that are apart, one by one
apart_at : (names : List (List ℕ)) (i j : ℕ) → IsDistinct same_names names → i < j → j < length names → same_names (name_at names i) (name_at names j) ≡ false
apart_at [] i j d lt h = absurd (omega arith)
apart_at (x ∷ xs) i zero d lt h = absurd (omega arith)
apart_at (x ∷ xs) zero (suc j) d lt h = all_at (λ y. same_names x y ≡ false) xs j [] (IsDistinct-head same_names x xs d) (omega arith)
apart_at (x ∷ xs) (suc i) (suc j) d lt h = apart_at xs i j (IsDistinct-tail same_names x xs d) (omega arith) (omega arith)

no_more : (b c : Bool) → c ≡ false → b ≡ b || c
no_more true c e = refl
no_more false c e = sym e

one_more : (b c : Bool) → c ≡ true → true ≡ b || c
one_more true c e = refl
one_more false c e = sym e

-- one flag is set for a name that is there
pub mark_one : (names : List (List ℕ)) (flags : List Bool) (name : List ℕ) (t : ℕ) → IsDistinct same_names names → position (same_names name) names ≡ Some t → length names ≤ length flags
    → (u : ℕ) → u < length names → is_marked (slice_set flags t true) u ≡ is_marked flags u || same_names name (name_at names u)
mark_one names flags name t apart found few u h =
    let at = position-Some (same_names name) names t [] found in
    elim (cases_eq u t) [
      | inl e ↦ subst (λ i. is_marked (slice_set flags t true) i ≡ is_marked flags i || same_names name (name_at names i)) (sym e)
          (get_or-set_same flags t true false (omega (arith, at.0, few)) ∙ one_more (is_marked flags t) (same_names name (name_at names t)) at.1)
      | inr d ↦ get_or-set_other flags t u true false d ∙ no_more (is_marked flags u) (same_names name (name_at names u)) (other (below_or u t) d)
    ]
  where
    other : (u < t) ⊎ (t ≤ u) → u ≢ t → same_names name (name_at names u) ≡ false
    other (inl lt) d = (position-Some (same_names name) names t [] found).2 u lt
    other (inr le) d =
        nat_list_eq_equiv.congr name (name_at names t) (name_at names u) (position-Some (same_names name) names t [] found).1
        ∙ apart_at names t u apart (omega (arith, le, d)) h

-- none is set for a name that isn't
pub mark_none : (names : List (List ℕ)) (flags : List Bool) (name : List ℕ) → list_any (same_names name) names ≡ false
    → (u : ℕ) → u < length names → is_marked flags u ≡ is_marked flags u || same_names name (name_at names u)
mark_none names flags name none u h = no_more (is_marked flags u) (same_names name (name_at names u)) (none_at (same_names name (name_at names u)) refl)
  where
    none_at : (b : Bool) → same_names name (name_at names u) ≡ b → same_names name (name_at names u) ≡ false
    none_at false e = e
    none_at true e = (let yes : list_any (same_names name) names ≡ true = list_any_at (same_names name) names u [] h e in let no = none in cc)

pub has_tables : (told : Bool) (c : CatState) → IsCatalogue told c → HasTables c.tables
has_tables told c ok = record { numbers = λ t h. (ok.tables t h).number; seals = λ t h. (ok.tables t h).seals }

seal_if : (told : Bool) (h : List Noted) (t n b at : ℕ) (all some : Option SealState) → HasSeal told h (id_of t n b) all → (y : Bool) → ltb at (last_change h (id_of t n b)) ≡ y
    → some ≡ kept_if y all → IsSealIf y told h (id_of t n b) some
seal_if told h t n b at all some has false e s = s
seal_if told h t n b at None some has true e s = absurd (let lt : 0 < last_change h (id_of t n b) = (let f = e in grind (arith, nat_tests)) in let no : false ≡ true = has.some lt in cc)
seal_if told h t n b at (Some z) some has true e s = subst (IsSealOf told h (id_of t n b)) (sym s) (record { id = has.id z refl; len = has.len; bytes = has.bytes })

-- a copy is what a look sees
pub seen_one : (told : Bool) (c : CatState) (have : List Have) (s : TableSnapState) → IsCatalogue told c → IsCopy have c.tables s → IsSeen told (history told c) (have_at have s.table) s
seen_one told c have s ok copy =
    let h = history told c in
    let number : (table_in c.tables s.table).number ≡ s.table = (ok.tables s.table copy.within).number in
    record {
      made = omega (arith, copy.within, ap (λ (ds : List Definition). length ds) ok.definitions, length-map c.tables (λ (z : TableState). z.def));
      def = copy.copy.def ∙ sym (def_made told c s.table ok copy.within);
      seals = λ n b. seal_if told h s.table n b (have_at have s.table) (seal_of c.tables (id_of s.table n b)) (seal_in s.lanes n b) (ok.seals s.table n b) (ltb (have_at have s.table) (last_change h (id_of s.table n b))) refl
          (copy.copy.seals n b ∙ ap (λ i. kept_if (ltb (have_at have i) (change_in (table_in c.tables s.table).changed n b)) (seal_of c.tables (id_of s.table n b))) number
          ∙ ap (λ i. kept_if (ltb (have_at have s.table) i) (seal_of c.tables (id_of s.table n b))) (ok.changed s.table n b));
    }

pub seen_all : (told : Bool) (c : CatState) (scope : Scope) (have : List Have) (snaps : List TableSnapState) → IsCatalogue told c → numbers_of snaps ≡ numbers_in scope 0 (defs_of c.tables)
    → ((i : ℕ) → i < length snaps → IsCopy have c.tables (snap_at snaps i)) → AreSeen told (history told c) scope have snaps
seen_all told c scope have snaps ok numbers each = record {
  tables = numbers ∙ ap (numbers_in scope 0) ok.definitions;
  each = λ i h. seen_one told c have (snap_at snaps i) ok (each i h);
}
