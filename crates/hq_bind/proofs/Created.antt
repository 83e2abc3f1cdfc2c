-- The table of a CREATE TABLE that is not refused keeps the rules of a table.
use Rattle.std.proofs.Common.{◌≡◌, ℕ, zero, suc, ◌+◌, ◌<◌, ◌≤◌, ◌==◌, Bool, true, false, not, ◌||◌, ◌&&◌, cond, nat_eq, nat_le, nat_lt, List, [], ◌∷◌, length, map, slice_index_or, Option, Some, None, refl, sym, ap, subst, ◌∙◌, lt-ltb, arith}
use Rattle.std.specs.Prelude.{position, unwrap_or, IsTrue}
use Rattle.std.specs.List.{list_any, list_all, position_or_len}
use Rattle.std.proofs.lemmas.Bool.{leb-true, ltb-false, eqb-true, eq-eqb}
use Rattle.hq_value.specs.Tables.{Definition, IsDefinition, are_distinct, same_names, all_below, is_column}
use Rattle.hq_value.specs.declared.table.Column.{Column}
use Rattle.hq_sql.specs.Fits.{has_some}
use Rattle.hq_sql.specs.declared.tree.CreateStatement.{CreateStatement}
use Rattle.hq_bind.specs.declared.refusal.Refusal.TheVariants as refused
use Rattle.hq_bind.specs.Scope.{Name}
use Rattle.hq_bind.specs.Faults.{create_refusal, is_no_column}
use Rattle.hq_bind.specs.Targets.{column_names}
use Rattle.hq_bind.specs.Bound.{created, key_place}
use Rattle.hq_bind.proofs.Grouped.{first_within, found_within, or_parts, not_false}
use Rattle.hq_bind.proofs.OverSources.{both_true}

pub same_is : (v w : List ℕ) → same_names v w ≡ true → v ≡ w
same_is [] [] h = refl
same_is [] (y ∷ ys) h = cc
same_is (x ∷ xs) [] h = cc
same_is (x ∷ xs) (y ∷ ys) h =
    let p = both_true (nat_eq x y) (same_names xs ys) h in
    let first : x ≡ y = eqb-true x y p.0 in
    let rest : xs ≡ ys = same_is xs ys p.1 in
    cc

pub same_itself : (v : List ℕ) → same_names v v ≡ true
same_itself [] = refl
same_itself (x ∷ xs) = rw (eq-eqb x x refl, same_itself xs) refl

-- the first item that passes does so
holds_first : {X : Type 0} (f : X → Bool) (xs : List X) (d : X) → list_any f xs ≡ true → f (slice_index_or xs (position_or_len f xs) d) ≡ true
holds_first f [] d h = cc
holds_first f (x ∷ xs) d h = go (f x) refl h (holds_first f xs d)
  where
    go : (b : Bool) → f x ≡ b → (b || list_any f xs) ≡ true → (list_any f xs ≡ true → f (slice_index_or xs (position_or_len f xs) d) ≡ true)
        → f (slice_index_or (x ∷ xs) (position_or_len f (x ∷ xs)) d) ≡ true
    go true e h again = rw e e
    go false e h again = let n : 1 + position_or_len f xs ≡ suc (position_or_len f xs) = omega arith in rw (e, n) (again h)

place_is : (columns : List Column) (name : Name) → is_column columns name ≡ true → key_place columns name ≡ position_or_len (λ (c : Column). same_names c.name name) columns
place_is columns name h = let w = first_within (λ (c : Column). same_names c.name name) columns h in rw (lt-ltb (position_or_len (λ (c : Column). same_names c.name name) columns) (length columns) w) refl

-- the column at a key's place has its name
named_there : (columns : List Column) (name : Name) (d : Column) → is_column columns name ≡ true → (slice_index_or columns (key_place columns name) d).name ≡ name
named_there columns name d h =
    same_is _ name (rw (place_is columns name h) (holds_first (λ (c : Column). same_names c.name name) columns d h))

-- two names at one place are one
one_place : (columns : List Column) (v w : Name) (d : Column) → is_column columns v ≡ true → is_column columns w ≡ true → key_place columns v ≡ key_place columns w → v ≡ w
one_place columns v w d hv hw e = sym (named_there columns v d hv) ∙ ap (λ n. (slice_index_or columns n d).name) e ∙ named_there columns w d hw

no_first : (columns : List Column) (v : Name) (names : List Name) → list_any (is_no_column columns) (v ∷ names) ≡ false → (is_column columns v ≡ true) × (list_any (is_no_column columns) names ≡ false)
no_first columns v names h = let p = or_parts (is_no_column columns v) (list_any (is_no_column columns) names) h in (not_false (is_column columns v) p.0, p.1)

fresh : (columns : List Column) (d : Column) (v : Name) (names : List Name) → is_column columns v ≡ true → list_any (is_no_column columns) names ≡ false
    → list_any (same_names v) names ≡ false → list_any (nat_eq (key_place columns v)) (map (key_place columns) names) ≡ false
fresh columns d v [] hv h n = refl
fresh columns d v (w ∷ names) hv h n =
    let p = no_first columns w names h in
    let q = or_parts (same_names v w) (list_any (same_names v) names) n in
    rw (other (nat_eq (key_place columns v) (key_place columns w)) refl p.0 q.0) (fresh columns d v names hv p.1 q.1)
  where
    other : (b : Bool) → nat_eq (key_place columns v) (key_place columns w) ≡ b → is_column columns w ≡ true → same_names v w ≡ false → b ≡ false
    other false e hw apart = refl
    other true e hw apart =
        let same : v ≡ w = one_place columns v w d hv hw (eqb-true (key_place columns v) (key_place columns w) e) in
        let yes : same_names v w ≡ true = subst (λ z. same_names v z ≡ true) same (same_itself v) in
        cc

pub distinct_first : {X : Type 0} (same : X → X → Bool) (x : X) (xs : List X) → are_distinct same (x ∷ xs) ≡ true → (list_any (same x) xs ≡ false) × (are_distinct same xs ≡ true)
distinct_first same x xs h = go (list_any (same x) xs) refl h
  where
    go : (b : Bool) → list_any (same x) xs ≡ b → (not b && are_distinct same xs) ≡ true → (list_any (same x) xs ≡ false) × (are_distinct same xs ≡ true)
    go true e h = cc
    go false e h = (e, h)

pub places_distinct : (columns : List Column) (d : Column) (names : List Name) → list_any (is_no_column columns) names ≡ false → are_distinct same_names names ≡ true
    → are_distinct nat_eq (map (key_place columns) names) ≡ true
places_distinct columns d [] h n = refl
places_distinct columns d (v ∷ names) h n =
    let p = no_first columns v names h in
    let q = distinct_first same_names v names n in
    rw (fresh columns d v names p.0 p.1 q.0, places_distinct columns d names p.1 q.1) refl

pub places_within : (columns : List Column) (names : List Name) → list_any (is_no_column columns) names ≡ false → all_below (length columns) (map (key_place columns) names) ≡ true
places_within columns [] h = refl
places_within columns (v ∷ names) h =
    let p = no_first columns v names h in
    rw (lt-ltb (key_place columns v) (length columns) (found_within (λ (c : Column). same_names c.name v) columns p.0), places_within columns names p.1) refl

-- ---- what is not refused

pub record Allowed (c : CreateStatement) : Type 0 where
  pub few : nat_lt 64 (length c.columns) ≡ false
  pub columns : are_distinct same_names (column_names c.columns) ≡ true
  pub keys : are_distinct same_names c.keys ≡ true
  pub found : list_any (is_no_column c.columns) c.keys ≡ false

pub allowed : (c : CreateStatement) → create_refusal c ≡ None → Allowed c
allowed c h = go (nat_lt 64 (length c.columns)) (are_distinct same_names (column_names c.columns)) (are_distinct same_names c.keys) (list_any (is_no_column c.columns) c.keys) refl refl refl refl h
  where
    go : (a b k f : Bool) → nat_lt 64 (length c.columns) ≡ a → are_distinct same_names (column_names c.columns) ≡ b → are_distinct same_names c.keys ≡ k → list_any (is_no_column c.columns) c.keys ≡ f
        → cond a (Some refused.Limit) (cond (not (b && k)) (Some refused.DuplicateColumn) (cond f (Some refused.UndefinedColumn) None)) ≡ None → Allowed c
    go true b k f ea eb ek ef h = cc
    go false true true false ea eb ek ef h = record { few = ea; columns = eb; keys = ek; found = ef }
    go false true true true ea eb ek ef h = cc
    go false true false f ea eb ek ef h = cc
    go false false k f ea eb ek ef h = cc

some_column : (columns : List Column) → 1 ≤ length columns → Column
some_column [] h = absurd (omega (arith, h))
some_column (c ∷ columns) h = c

pub created_is : (c : CreateStatement) → has_some c.columns ≡ true → create_refusal c ≡ None → IsDefinition (created c)
created_is c some h =
    let a = allowed c h in
    let n : 1 ≤ length c.columns = leb-true 1 (length c.columns) some in
    record {
      some = omega (arith, n);
      few = ltb-false 64 (length c.columns) a.few;
      distinct = a.columns;
      keys_distinct = places_distinct c.columns (some_column c.columns n) c.keys a.found a.keys;
      keys_within = places_within c.columns c.keys a.found;
    }

pub made_is : (c : CreateStatement) (name : Name) (columns : List Column) (keys : List ℕ) → name ≡ c.name → columns ≡ c.columns → keys ≡ map (key_place c.columns) c.keys → has_some c.columns ≡ true → create_refusal c ≡ None
    → IsDefinition (record { name = name; columns = columns; keys = keys })
made_is c name columns keys n l k some h = rw (n, l, k) (created_is c some h)
