-- One more row behind the first of equal rows.
use Rattle.std.proofs.Common.{◌≡◌, Bool, true, false, cond, not, ◌||◌, List, [], ◌∷◌, ◌++◌, filter, refl, sym, ◌∙◌, ap}
use Rattle.std.specs.List.{list_any}
use Rattle.std.specs.Cmp.Lexicographic.{pointwise}
use Rattle.std.proofs.lemmas.List.{append-nil}
use Rattle.std.proofs.lemmas.List.Elements.{filter-append}
use Rattle.hq_value.specs.contracts.value.ValuePartialEq.TheImpl as partial
use Rattle.hq_value.proofs.Equal.{row_ties}
use Rattle.hq_meaning.specs.Rows.{Row, firsts, same_row}
use Rattle.hq_meaning.proofs.Bags.{same_equal, same_self}

pub flip_same : (x y : Row) → same_row x y ≡ same_row y x
flip_same x y = by (same_row x y) (same_row y x) refl refl
  where
    by : (a b : Bool) → same_row x y ≡ a → same_row y x ≡ b → same_row x y ≡ same_row y x
    by true true e g = e ∙ sym g
    by false false e g = e ∙ sym g
    by true false e g = let u : true ≡ false = sym (same_self y) ∙ ap (λ w. same_row y w) (sym (same_equal x y e)) ∙ g in cc
    by false true e g = let u : false ≡ true = sym e ∙ ap (λ w. same_row x w) (same_equal y x g) ∙ same_self x in cc

-- what another row has no part in
through : (p q : Row → Bool) → ((y : Row) → p y ≡ true → q y ≡ true) → (xs : List Row) → list_any p (filter q xs) ≡ list_any p xs
through p q h [] = refl
through p q h (x ∷ xs) = by (p x) (q x) refl (h x) (through p q h xs)
  where
    by : (a b : Bool) → p x ≡ a → (p x ≡ true → b ≡ true) → list_any p (filter q xs) ≡ list_any p xs → list_any p (cond b (x ∷ filter q xs) (filter q xs)) ≡ (a || list_any p xs)
    by true true e g rest = ap (λ b. b || list_any p (filter q xs)) e
    by true false e g rest = let u : false ≡ true = g e in cc
    by false true e g rest = ap (λ b. b || list_any p (filter q xs)) e ∙ rest
    by false false e g rest = rest

apart : (k x : Row) → same_row k x ≡ false → (y : Row) → same_row k y ≡ true → not (same_row x y) ≡ true
apart k x e y h = by (same_row x y) refl
  where
    by : (b : Bool) → same_row x y ≡ b → not b ≡ true
    by true g = let u : true ≡ false = sym h ∙ ap (same_row k) (sym (same_equal x y g)) ∙ e in cc
    by false g = refl

pub any-firsts : (k : Row) (xs : List Row) → list_any (same_row k) (firsts xs) ≡ list_any (same_row k) xs
any-firsts k [] = refl
any-firsts k (x ∷ xs) = by (same_row k x) refl (any-firsts k xs)
  where
    by : (b : Bool) → same_row k x ≡ b → list_any (same_row k) (firsts xs) ≡ list_any (same_row k) xs
        → (b || list_any (same_row k) (filter (λ y. not (same_row x y)) (firsts xs))) ≡ (b || list_any (same_row k) xs)
    by true e rest = refl
    by false e rest = through (same_row k) (λ y. not (same_row x y)) (apart k x e) (firsts xs) ∙ rest

pub firsts-push : (xs : List Row) (x : Row) → firsts (xs ++ x ∷ []) ≡ cond (list_any (same_row x) xs) (firsts xs) (firsts xs ++ x ∷ [])
firsts-push [] x = refl
firsts-push (y ∷ xs) x = ap (λ l. y ∷ filter (λ z. not (same_row y z)) l) (firsts-push xs x) ∙ by (same_row x y) (list_any (same_row x) xs) (same_row y x) (flip_same x y) refl
  where
    by : (a b c : Bool) → a ≡ c → same_row y x ≡ c
        → y ∷ filter (λ z. not (same_row y z)) (cond b (firsts xs) (firsts xs ++ x ∷ [])) ≡ cond (a || b) (y ∷ filter (λ z. not (same_row y z)) (firsts xs)) (y ∷ filter (λ z. not (same_row y z)) (firsts xs) ++ x ∷ [])
    by true true c e h = refl
    by true false true e h = ap (λ l. y ∷ l) (filter-append (λ z. not (same_row y z)) (firsts xs) (x ∷ []) ∙ ap (λ b. filter (λ z. not (same_row y z)) (firsts xs) ++ cond (not b) (x ∷ []) []) h ∙ append-nil (filter (λ z. not (same_row y z)) (firsts xs)))
    by true false false e h = cc
    by false true c e h = refl
    by false false true e h = cc
    by false false false e h = ap (λ l. y ∷ l) (filter-append (λ z. not (same_row y z)) (firsts xs) (x ∷ []) ∙ ap (λ b. filter (λ z. not (same_row y z)) (firsts xs) ++ cond (not b) (x ∷ []) []) h)

-- what a set of the first ones says of a row is what the rows say
pub seen_any : (xs keys : List Row) (x : Row) → keys ≡ firsts xs → list_any (λ w. pointwise (partial.ghosts).eq x w) keys ≡ list_any (same_row x) xs
seen_any xs keys x ek = (λ i. list_any (λ w. row_ties x w i) (ek i)) ∙ any-firsts x xs

pub keys-step : (xs keys news : List Row) (x : Row) → keys ≡ firsts xs
    → news ≡ cond (list_any (λ w. pointwise (partial.ghosts).eq x w) keys) keys (keys ++ x ∷ [])
    → news ≡ firsts (xs ++ x ∷ [])
keys-step xs keys news x ek en = en ∙ (λ i. cond (seen_any xs keys x ek i) (ek i) (ek i ++ x ∷ [])) ∙ sym (firsts-push xs x)
