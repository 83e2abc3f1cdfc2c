-- A table with one column more keeps the rules.
use Rattle.std.proofs.Common.{◌≡◌, ◌<◌, ◌+◌, ℕ, suc, Bool, true, false, not, ◌&&◌, ◌||◌, IsTrue, List, [], ◌∷◌, ◌++◌, length, map, refl, sym, ◌∙◌, ap, subst, arith, length-append}
use Rattle.std.proofs.lemmas.Bool.Decides.{nat_tests}
use Rattle.std.proofs.lemmas.List.{map-append}
use Rattle.std.specs.Prelude.{nat_lt, nat_eq}
use Rattle.std.specs.List.{list_any}
use Rattle.hq_value.specs.declared.table.Column.{Column}
use Rattle.hq_value.specs.Tables.{Definition, IsDefinition, are_distinct, same_names, all_below, is_column, with_column}

both_true : (a b : Bool) → (a && b) ≡ true → (a ≡ true) × (b ≡ true)
both_true true b e = (refl, e)
both_true false b e = cc

either_false : (a b : Bool) → (a || b) ≡ false → (a ≡ false) × (b ≡ false)
either_false true b e = cc
either_false false b e = (refl, e)

any-last : {X : Type 0} (test : X → Bool) (xs : List X) (y : X) → list_any test xs ≡ false → test y ≡ false → list_any test (xs ++ y ∷ []) ≡ false
any-last test [] y none last = rw last refl
any-last test (x ∷ xs) y none last =
    let both = either_false (test x) (list_any test xs) none in
    rw both.0 (any-last test xs y both.1 last)

not_true : (a : Bool) → not a ≡ true → a ≡ false
not_true true e = cc
not_true false e = refl

distinct-last : (same : List ℕ → List ℕ → Bool) (columns : List Column) (name : List ℕ) → are_distinct same (map (λ column. column.name) columns) ≡ true → list_any (λ column. same column.name name) columns ≡ false → are_distinct same (map (λ column. column.name) columns ++ name ∷ []) ≡ true
distinct-last same [] name e none = refl
distinct-last same (c ∷ columns) name e none =
    let names : List (List ℕ) = map (λ column. column.name) columns in
    let both = both_true (not (list_any (same c.name) names)) (are_distinct same names) e in
    let other = either_false (same c.name name) (list_any (λ column. same column.name name) columns) none in
    let apart : list_any (same c.name) (names ++ name ∷ []) ≡ false = any-last (same c.name) names name (not_true (list_any (same c.name) names) both.0) other.0 in
    rw apart (distinct-last same columns name both.1 other.1)

below-more : (n m : ℕ) (keys : List ℕ) → n < m → all_below n keys ≡ true → all_below m keys ≡ true
below-more n m [] less e = refl
below-more n m (key ∷ keys) less e =
    let both = both_true (nat_lt key n) (all_below n keys) e in
    let first : nat_lt key m ≡ true = grind (arith, nat_tests) in
    rw first (below-more n m keys less both.1)

pub IsDefinition-with_column : (def : Definition) (column : Column) → IsDefinition def → length def.columns < 64 → is_column def.columns column.name ≡ false → IsDefinition (with_column def column)
IsDefinition-with_column def column is room new_name =
    let one_more : length (def.columns ++ column ∷ []) ≡ length def.columns + 1 = length-append def.columns (column ∷ []) in
    record {
      some = omega (arith, one_more);
      few = omega (arith, one_more, room);
      distinct = subst (λ names. are_distinct same_names names ≡ true) (sym (map-append (λ (column : Column). column.name) def.columns (column ∷ []))) (distinct-last same_names def.columns column.name is.distinct new_name);
      keys_distinct = is.keys_distinct;
      keys_within = below-more (length def.columns) (length (def.columns ++ column ∷ [])) def.keys (omega (arith, one_more)) is.keys_within;
    }
