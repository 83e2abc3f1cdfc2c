-- Keys as they are collected: each is new, and a place of a column.
use Rattle.std.proofs.Common.{◌≡◌, ℕ, ◌+◌, ◌<◌, Bool, true, false, not, ◌&&◌, ◌||◌, nat_eq, nat_lt, List, [], ◌∷◌, ◌++◌, length, get_or, drop, Option, Some, None, refl, ap, sym, ◌∙◌, lt-ltb}
use Rattle.std.specs.List.{list_any, list_all}
use Rattle.std.proofs.lemmas.Bool.{eqb-true, eq-eqb}
use Rattle.std.proofs.lemmas.List.Folds.{list_any-append, list_all-append}
use Rattle.hq_value.specs.Tables.{are_distinct, all_below}
use Rattle.hq_sql.specs.Texts.{in_front}
use Rattle.hq_forms.specs.Forms.{◌>>=◌, every, if_distinct}
use Rattle.hq_forms.proofs.Every.{with_front, drop_next}

both_true : (a b : Bool) → (a && b) ≡ true → (a ≡ true) × (b ≡ true)
both_true true true h = (refl, refl)
both_true true false h = cc
both_true false b h = cc

is_not : (a : Bool) → not a ≡ true → a ≡ false
is_not true h = cc
is_not false h = refl

and_false : (a : Bool) → (a && false) ≡ false
and_false true = refl
and_false false = refl

-- the second of three tests passes
seen : (a b c : Bool) → (not (a || (true || b)) && c) ≡ false
seen true b c = refl
seen false b c = refl

not_one : (p q : ℕ) (qs : List ℕ) → list_any (nat_eq p) (q ∷ qs) ≡ false → (nat_eq q p ≡ false) × (list_any (nat_eq p) qs ≡ false)
not_one p q qs h = go (nat_eq p q) (nat_eq q p) refl refl h
  where
    go : (a b : Bool) → nat_eq p q ≡ a → nat_eq q p ≡ b → (a || list_any (nat_eq p) qs) ≡ false → (b ≡ false) × (list_any (nat_eq p) qs ≡ false)
    go true b e e' h = cc
    go false false e e' h = (refl, h)
    go false true e e' h =
        let same : q ≡ p = eqb-true q p e' in
        let yes : nat_eq p q ≡ true = eq-eqb p q (sym same) in
        let bad : false ≡ true = sym e ∙ yes in cc

-- a place that isn't there yet
pub distinct_push : (keys : List ℕ) (p : ℕ) → are_distinct nat_eq keys ≡ true → list_any (nat_eq p) keys ≡ false → are_distinct nat_eq (keys ++ p ∷ []) ≡ true
distinct_push [] p h fresh = refl
distinct_push (q ∷ qs) p h fresh =
    let parts = not_one p q qs fresh in
    let first = both_true (not (list_any (nat_eq q) qs)) (are_distinct nat_eq qs) h in
    let none : list_any (nat_eq q) qs ≡ false = is_not (list_any (nat_eq q) qs) first.0 in
    rw (list_any-append (nat_eq q) qs (p ∷ []), none, parts.0, distinct_push qs p first.1 parts.1) refl

pub within_push : (n : ℕ) (keys : List ℕ) (p : ℕ) → all_below n keys ≡ true → p < n → all_below n (keys ++ p ∷ []) ≡ true
within_push n keys p h below = rw (list_all-append (λ place. nat_lt place n) keys (p ∷ []), h, lt-ltb p n below) refl

-- a place that stands twice
twice_step : (p q : ℕ) (qs rest : List ℕ) → (list_any (nat_eq p) qs ≡ true → are_distinct nat_eq (qs ++ p ∷ rest) ≡ false) → list_any (nat_eq p) (q ∷ qs) ≡ true
    → are_distinct nat_eq (q ∷ (qs ++ p ∷ rest)) ≡ false
twice_step p q qs rest again h = go (nat_eq p q) refl h
  where
    go : (b : Bool) → nat_eq p q ≡ b → (b || list_any (nat_eq p) qs) ≡ true → are_distinct nat_eq (q ∷ (qs ++ p ∷ rest)) ≡ false
    go true e h =
        let same : nat_eq q p ≡ true = eq-eqb q p (sym (eqb-true p q e)) in
        rw (list_any-append (nat_eq q) qs (p ∷ rest), same) (seen (list_any (nat_eq q) qs) (list_any (nat_eq q) rest) (are_distinct nat_eq (qs ++ p ∷ rest)))
    go false e h = rw (again h) (and_false (not (list_any (nat_eq q) (qs ++ p ∷ rest))))

twice_in : (keys rest : List ℕ) (p : ℕ) → list_any (nat_eq p) keys ≡ true → are_distinct nat_eq (keys ++ p ∷ rest) ≡ false
twice_in [] rest p h = cc
twice_in (q ∷ qs) rest p h = twice_step p q qs rest (twice_in qs rest p) h

twice_whole : (keys : List ℕ) (p : ℕ) (rest whole : Option (List ℕ)) → list_any (nat_eq p) keys ≡ true → with_front keys (in_front p rest) ≡ whole → (whole >>= if_distinct) ≡ None
twice_whole keys p None whole h e = rw (sym e) refl
twice_whole keys p (Some zs) whole h e = ap (λ o. o >>= if_distinct) (sym e) ∙ rw (twice_in keys zs p h) refl

pub twice : {A : Type 0} (f : A → Option ℕ) (keys : List ℕ) (xs : List A) (i : ℕ) (x : A) (p : ℕ) (whole : Option (List ℕ)) → i < length xs → x ≡ get_or xs i x → f x ≡ Some p
    → list_any (nat_eq p) keys ≡ true → with_front keys (every f (drop i xs)) ≡ whole → (whole >>= if_distinct) ≡ None
twice f keys xs i x p whole h e g stands before =
    twice_whole keys p (every f (drop (i + 1) xs)) whole stands
    (ap (λ o. with_front keys (o >>= (λ z. in_front z (every f (drop (i + 1) xs))))) (sym g) ∙ (ap (λ zs. with_front keys (every f zs)) (sym (drop_next xs i x h e)) ∙ before))

pub distinct_keys : (keys : List ℕ) (whole : Option (List ℕ)) → whole ≡ Some keys → are_distinct nat_eq keys ≡ true → (whole >>= if_distinct) ≡ Some keys
distinct_keys keys whole e h = ap (λ o. o >>= if_distinct) e ∙ rw h refl

pub no_keys : (whole : Option (List ℕ)) → whole ≡ None → (whole >>= if_distinct) ≡ None
no_keys whole e = ap (λ o. o >>= if_distinct) e
