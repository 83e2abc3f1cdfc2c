-- One more row in its group.
use Rattle.std.proofs.Common.{zero, length, take, ◌==◌, ◌≡◌, ℕ, suc, ◌+◌, Bool, true, false, cond, not, ◌||◌, List, [], ◌∷◌, ◌++◌, map, filter, get_or, slice_set, subst, refl, sym, ◌∙◌, ap, arith}
use Rattle.std.specs.List.{list_any, position_or_len}
use Rattle.std.specs.Cmp.Lexicographic.{pointwise}
use Rattle.std.proofs.lemmas.List.{append-nil, map-append}
use Rattle.std.proofs.lemmas.List.Elements.{filter-append}
use Rattle.hq_value.specs.contracts.value.ValuePartialEq.TheImpl as partial
use Rattle.hq_value.proofs.Equal.{row_ties}
use Rattle.hq_meaning.specs.Rows.{Row, firsts, same_row}
use Rattle.hq_meaning.specs.Groups.{key_of, keys_found, members}
use Rattle.hq_meaning.proofs.Bags.{same_equal, same_self}
use Rattle.hq_ops.specs.declared.groups.GroupBy.{GroupBy}
use Rattle.hq_ops.specs.declared.groups.GroupBy.TheVariants as by
use Rattle.hq_ops.specs.Grouping.{key_by, width_by}
use Rattle.hq_ops.proofs.Firsts.{flip_same, any-firsts, firsts-push}

abbrev AllOf : (Row → Type 0) → List Row → Type 0
AllOf P [] = Unit {0}
AllOf P (x ∷ xs) = P x × AllOf P xs

-- no two are equal
abbrev Apart : List Row → Type 0
Apart [] = Unit {0}
Apart (k ∷ ks) = AllOf (λ z. same_row k z ≡ false) ks × Apart ks

AllOf-filter : (P : Row → Type 0) (q : Row → Bool) (xs : List Row) → AllOf P xs → AllOf P (filter q xs)
AllOf-filter P q [] all = tt
AllOf-filter P q (x ∷ xs) all = by (q x) (AllOf-filter P q xs all.1)
  where
    by : (b : Bool) → AllOf P (filter q xs) → AllOf P (cond b (x ∷ filter q xs) (filter q xs))
    by true rest = (all.0, rest)
    by false rest = rest

Apart-filter : (q : Row → Bool) (xs : List Row) → Apart xs → Apart (filter q xs)
Apart-filter q [] all = tt
Apart-filter q (x ∷ xs) all = by (q x) (Apart-filter q xs all.1)
  where
    by : (b : Bool) → Apart (filter q xs) → Apart (cond b (x ∷ filter q xs) (filter q xs))
    by true rest = (AllOf-filter (λ z. same_row x z ≡ false) q xs all.0, rest)
    by false rest = rest

others : (x : Row) (xs : List Row) → AllOf (λ z. same_row x z ≡ false) (filter (λ y. not (same_row x y)) xs)
others x [] = tt
others x (y ∷ xs) = by (same_row x y) refl (others x xs)
  where
    by : (b : Bool) → same_row x y ≡ b → AllOf (λ z. same_row x z ≡ false) (filter (λ y. not (same_row x y)) xs) → AllOf (λ z. same_row x z ≡ false) (cond (not b) (y ∷ filter (λ y. not (same_row x y)) xs) (filter (λ y. not (same_row x y)) xs))
    by true e rest = rest
    by false e rest = (e, rest)

firsts-apart : (xs : List Row) → Apart (firsts xs)
firsts-apart [] = tt
firsts-apart (x ∷ xs) = (others x (firsts xs), Apart-filter (λ y. not (same_row x y)) (firsts xs) (firsts-apart xs))

module _ (F : Row → List Row) (x y : Row) (d : List Row) where
  abbrev more : Row → List Row
  more k = F k ++ cond (same_row k y) (x ∷ []) []

  abbrev put : List (List Row) → ℕ → List (List Row)
  put hs n = slice_set hs n (get_or hs n d ++ x ∷ [])

  untouched : (ks : List Row) → AllOf (λ z. same_row y z ≡ false) ks → map F ks ≡ map more ks
  untouched [] all = refl
  untouched (k ∷ ks) all = λ i. (sym (append-nil (F k)) ∙ ap (λ b. F k ++ cond b (x ∷ []) []) (sym (flip_same k y ∙ all.0))) i ∷ untouched ks all.1 i

  put-suc : (h : List Row) (hs : List (List Row)) (n : ℕ) → put (h ∷ hs) (1 + n) ≡ h ∷ put hs n
  put-suc h hs n = let e : 1 + n ≡ suc n = omega arith in ap (put (h ∷ hs)) e

  placed : (ks : List Row) → Apart ks → put (cond (not (list_any (same_row y) ks)) (map F ks ++ F y ∷ []) (map F ks)) (position_or_len (same_row y) ks) ≡ map more (cond (list_any (same_row y) ks) ks (ks ++ y ∷ []))
  placed [] apart = ap (λ b. (F y ++ cond b (x ∷ []) []) ∷ []) (sym (same_self y))
  placed (k ∷ ks) apart = by (same_row y k) refl (list_any (same_row y) ks) (placed ks apart.1)
    where
      by : (a : Bool) → same_row y k ≡ a → (b : Bool)
          → put (cond (not b) (map F ks ++ F y ∷ []) (map F ks)) (position_or_len (same_row y) ks) ≡ map more (cond b ks (ks ++ y ∷ []))
          → put (cond (not (a || b)) (F k ∷ (map F ks ++ F y ∷ [])) (F k ∷ map F ks)) (cond (not a) (1 + position_or_len (same_row y) ks) 0) ≡ map more (cond (a || b) (k ∷ ks) (k ∷ (ks ++ y ∷ [])))
      by true e b rest = λ i. (F k ++ cond (sym (flip_same k y ∙ e) i) (x ∷ []) []) ∷ untouched ks (subst (λ w. AllOf (λ z. same_row w z ≡ false) ks) (sym (same_equal y k e)) apart.0) i
      by false e true rest = put-suc (F k) (map F ks) (position_or_len (same_row y) ks) ∙ (λ i. (sym (append-nil (F k)) ∙ ap (λ b. F k ++ cond b (x ∷ []) []) (sym (flip_same k y ∙ e))) i ∷ rest i)
      by false e false rest = put-suc (F k) (map F ks ++ F y ∷ []) (position_or_len (same_row y) ks) ∙ (λ i. (sym (append-nil (F k)) ∙ ap (λ b. F k ++ cond b (x ∷ []) []) (sym (flip_same k y ∙ e))) i ∷ rest i)

pub none-equal : (key : Row → Row) (k : Row) (rows : List Row) → list_any (same_row k) (map key rows) ≡ false → members key k rows ≡ []
none-equal key k [] h = refl
none-equal key k (r ∷ rows) h = by (same_row k (key r)) h (none-equal key k rows)
  where
    by : (b : Bool) → (b || list_any (same_row k) (map key rows)) ≡ false → (list_any (same_row k) (map key rows) ≡ false → members key k rows ≡ []) → cond b (r ∷ members key k rows) (members key k rows) ≡ []
    by true e rest = cc
    by false e rest = rest e

-- the groups after one more row
pub groups-step : (key : Row → Row) (xs : List Row) (x : Row) (olds : List Row) (y : Row) (gs hs : List (List Row)) (index : ℕ) (fresh : Bool) (g d : List Row)
    → olds ≡ firsts (map key xs) → y ≡ key x → gs ≡ map (λ k. members key k xs) (firsts (map key xs))
    → fresh ≡ not (list_any (λ w. pointwise (partial.ghosts).eq y w) olds) → index ≡ position_or_len (λ w. pointwise (partial.ghosts).eq y w) olds
    → hs ≡ cond fresh (gs ++ [] ∷ []) gs → g ≡ get_or hs index d ++ x ∷ []
    → slice_set hs index g ≡ map (λ k. members key k (xs ++ x ∷ [])) (firsts (map key (xs ++ x ∷ [])))
groups-step key xs x olds y gs hs index fresh g d eo ey eg ef ei eh en =
    (λ i. slice_set (filled i) (found i) (grown i))
    ∙ placed (λ k. members key k xs) x (key x) d (firsts (map key xs)) (firsts-apart (map key xs))
    ∙ (λ i. map (λ k. sym (filter-append (λ row. same_row k (key row)) xs (x ∷ [])) i) (cond (any-firsts (key x) (map key xs) i) (firsts (map key xs)) (firsts (map key xs) ++ key x ∷ [])))
    ∙ ap (map (λ k. members key k (xs ++ x ∷ []))) (sym (ap firsts (map-append key xs (x ∷ [])) ∙ firsts-push (map key xs) (key x)))
  where
    any : list_any (λ w. pointwise (partial.ghosts).eq y w) olds ≡ list_any (same_row (key x)) (firsts (map key xs))
    any = λ i. list_any (λ w. row_ties (ey i) w i) (eo i)

    found : index ≡ position_or_len (same_row (key x)) (firsts (map key xs))
    found = ei ∙ (λ i. position_or_len (λ w. row_ties (ey i) w i) (eo i))

    by : (b : Bool) → list_any (same_row (key x)) (firsts (map key xs)) ≡ b → cond (not b) (map (λ k. members key k xs) (firsts (map key xs)) ++ [] ∷ []) (map (λ k. members key k xs) (firsts (map key xs))) ≡ cond (not b) (map (λ k. members key k xs) (firsts (map key xs)) ++ members key (key x) xs ∷ []) (map (λ k. members key k xs) (firsts (map key xs)))
    by true e = refl
    by false e = ap (λ l. map (λ k. members key k xs) (firsts (map key xs)) ++ l ∷ []) (sym (none-equal key (key x) xs (sym (any-firsts (key x) (map key xs)) ∙ e)))

    filled : hs ≡ cond (not (list_any (same_row (key x)) (firsts (map key xs)))) (map (λ k. members key k xs) (firsts (map key xs)) ++ members key (key x) xs ∷ []) (map (λ k. members key k xs) (firsts (map key xs)))
    filled = eh ∙ (λ i. cond ((ef ∙ ap not any) i) (eg i ++ [] ∷ []) (eg i)) ∙ by (list_any (same_row (key x)) (firsts (map key xs))) refl

    grown : g ≡ get_or (cond (not (list_any (same_row (key x)) (firsts (map key xs)))) (map (λ k. members key k xs) (firsts (map key xs)) ++ members key (key x) xs ∷ []) (map (λ k. members key k xs) (firsts (map key xs)))) (position_or_len (same_row (key x)) (firsts (map key xs))) d ++ x ∷ []
    grown = en ∙ (λ i. get_or (filled i) (found i) d ++ x ∷ [])

-- Without keys there is one group.
pub nil-of : (places : List ℕ) → length places ≡ 0 → (row : Row) → key_of places row ≡ []
nil-of [] h row = refl
nil-of (p ∷ places) h row = absurd (omega (arith, h))

pub key-nil : (by : GroupBy) → width_by by ≡ 0 → (row : Row) → key_by by row ≡ []
key-nil (by.Columns places) h row = nil-of places.now h row
key-nil (by.First count) h row = ap (λ n. take n row) h

abbrev nil : Row → Row
nil row = []

firsts-nil : (r : Row) (rows : List Row) → firsts (map nil (r ∷ rows)) ≡ [] ∷ []
firsts-nil r [] = refl
firsts-nil r (s ∷ rows) = ap (λ l. [] ∷ filter (λ y. not (same_row [] y)) l) (firsts-nil s rows)

pub found-firsts : (n : ℕ) (key : Row → Row) → (n ≡ 0 → (row : Row) → key row ≡ []) → (rows : List Row) → ((length rows == 0) ≡ true → (n == 0) ≡ false) → keys_found n key rows ≡ firsts (map key rows)
found-firsts (suc n) key h rows some = refl
found-firsts zero key h [] some = let u : true ≡ false = some refl in cc
found-firsts zero key h (r ∷ rows) some = sym (firsts-nil r rows) ∙ (λ i. firsts (map (λ row. sym (h refl row) i) (r ∷ rows)))
