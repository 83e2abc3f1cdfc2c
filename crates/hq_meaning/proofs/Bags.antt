-- What depends on a list of rows only as a bag.
use Rattle.std.proofs.Common.{flat_map, ◌≡◌, ℕ, ◌+◌, Bool, true, false, not, ◌||◌, cond, List, [], ◌∷◌, ◌++◌, map, filter, refl, sym, ◌∙◌, ap, arith}
use Rattle.std.specs.List.{list_any}
use Rattle.std.specs.Ordering.{is_gt, is_eq}
use Rattle.std.specs.declared.cmp.Ordering.{Ordering}
use Rattle.std.specs.declared.cmp.Ordering.TheVariants.{Less, Equal, Greater}
use Rattle.std.proofs.lemmas.Cmp.{tied_itself}
use Rattle.hq_value.specs.Sorting.{with_item, times}
use Rattle.hq_value.specs.Order.{row_cmp, in_row_order, SameBag}
use Rattle.hq_value.proofs.Order.{row_total, row_exact, in_row_order-SameBag}
use Rattle.hq_value.proofs.Sorting.{times-append}
use Rattle.hq_meaning.specs.Rows.{Row, pairs, firsts, same_row}

-- h is a fold whose steps may change places
module _ {B : Type 0} (h : List Row → B) (f : Row → B → B) (step : (x : Row) (xs : List Row) → h (x ∷ xs) ≡ f x (h xs)) (swaps : (x y : Row) (b : B) → f x (f y b) ≡ f y (f x b)) where
  at_item : (x : Row) (xs : List Row) → h (with_item row_cmp x xs) ≡ f x (h xs)
  at_item x [] = step x []
  at_item x (y ∷ ys) = by (is_gt (row_cmp x y)) (at_item x ys)
    where
      by : (b : Bool) → h (with_item row_cmp x ys) ≡ f x (h ys) → h (cond b (y ∷ with_item row_cmp x ys) (x ∷ y ∷ ys)) ≡ f x (h (y ∷ ys))
      by true rest = step y _ ∙ ap (f y) rest ∙ swaps y x (h ys) ∙ sym (ap (f x) (step y ys))
      by false rest = step x (y ∷ ys)

  in_order : (xs : List Row) → h (in_row_order xs) ≡ h xs
  in_order [] = refl
  in_order (x ∷ xs) = at_item x (in_row_order xs) ∙ ap (f x) (in_order xs) ∙ sym (step x xs)

  pub respects : (xs ys : List Row) → SameBag xs ys → h xs ≡ h ys
  respects xs ys same = sym (in_order xs) ∙ ap h (in_row_order-SameBag xs ys same) ∙ in_order ys

pub same_equal : (x y : Row) → same_row x y ≡ true → x ≡ y
same_equal x y h = row_exact x y (by (row_cmp x y) h)
  where
    by : (o : Ordering) → is_eq o ≡ true → o ≡ Equal
    by Less h = cc
    by Equal h = refl
    by Greater h = cc

pub same_self : (x : Row) → same_row x x ≡ true
same_self x = ap is_eq (tied_itself row_total x)

pub SameBag-refl : (xs : List Row) → SameBag xs xs
SameBag-refl xs z = refl

pub SameBag-sym : (xs ys : List Row) → SameBag xs ys → SameBag ys xs
SameBag-sym xs ys same z = sym (same z)

pub SameBag-trans : (xs ys zs : List Row) → SameBag xs ys → SameBag ys zs → SameBag xs zs
SameBag-trans xs ys zs same also z = same z ∙ also z

pub SameBag-equal : (xs ys : List Row) → xs ≡ ys → SameBag xs ys
SameBag-equal xs ys e z = ap (times row_cmp z) e

add_swap : (m n b : ℕ) → m + (n + b) ≡ n + (m + b)
add_swap m n b = omega arith

or_swap : (m n b : Bool) → (m || (n || b)) ≡ (n || (m || b))
or_swap true true b = refl
or_swap true false b = refl
or_swap false true b = refl
or_swap false false b = refl

pub SameBag-map : (g : Row → Row) (xs ys : List Row) → SameBag xs ys → SameBag (map g xs) (map g ys)
SameBag-map g xs ys same z = respects (λ l. times row_cmp z (map g l)) (λ x n. cond (is_eq (row_cmp z (g x))) 1 0 + n) (λ x l. refl) (λ x y n. add_swap _ _ n) xs ys same

pub SameBag-flat_map : (g : Row → List Row) (xs ys : List Row) → SameBag xs ys → SameBag (flat_map g xs) (flat_map g ys)
SameBag-flat_map g xs ys same z = respects (λ l. times row_cmp z (flat_map g l)) (λ x n. times row_cmp z (g x) + n) (λ x l. times-append row_cmp z (g x) (flat_map g l)) (λ x y n. add_swap _ _ n) xs ys same

-- flat_map element gives the same bag
pub SameBag-flat_map_by : (g k : Row → List Row) → ((x : Row) → SameBag (g x) (k x)) → (xs : List Row) → SameBag (flat_map g xs) (flat_map k xs)
SameBag-flat_map_by g k same [] z = refl
SameBag-flat_map_by g k same (x ∷ xs) z = times-append row_cmp z (g x) _ ∙ omega (arith, same x z, SameBag-flat_map_by g k same xs z) ∙ sym (times-append row_cmp z (k x) _)

pub SameBag-filter : (p : Row → Bool) (xs ys : List Row) → SameBag xs ys → SameBag (filter p xs) (filter p ys)
SameBag-filter p xs ys same z = respects (λ l. times row_cmp z (filter p l)) (λ x n. cond (p x) (cond (is_eq (row_cmp z x)) 1 0) 0 + n) step (λ x y n. add_swap _ _ n) xs ys same
  where
    step : (x : Row) (l : List Row) → times row_cmp z (filter p (x ∷ l)) ≡ cond (p x) (cond (is_eq (row_cmp z x)) 1 0) 0 + times row_cmp z (filter p l)
    step x l = by (p x)
      where
        by : (b : Bool) → times row_cmp z (cond b (x ∷ filter p l) (filter p l)) ≡ cond b (cond (is_eq (row_cmp z x)) 1 0) 0 + times row_cmp z (filter p l)
        by true = refl
        by false = omega arith

pub any-SameBag : (p : Row → Bool) (xs ys : List Row) → SameBag xs ys → list_any p xs ≡ list_any p ys
any-SameBag p = respects (list_any p) (λ x b. p x || b) (λ x l. refl) (λ x y b. or_swap (p x) (p y) b)

pub SameBag-pairs : (xs ys us vs : List Row) → SameBag xs ys → SameBag us vs → SameBag (pairs xs us) (pairs ys vs)
SameBag-pairs xs ys us vs same also z =
    SameBag-flat_map (λ l. map (λ r. l ++ r) us) xs ys same z
    ∙ SameBag-flat_map_by (λ l. map (λ r. l ++ r) us) (λ l. map (λ r. l ++ r) vs) (λ l. SameBag-map (λ r. l ++ r) us vs also) ys z

-- the first of equal rows
without : (x z : Row) (l : List Row) → times row_cmp z (filter (λ y. not (same_row x y)) l) ≡ cond (same_row z x) 0 (times row_cmp z l)
without x z [] = by (same_row z x)
  where
    by : (b : Bool) → ◌≡◌ {A = ℕ} 0 (cond b 0 0)
    by true = refl
    by false = refl
without x z (y ∷ l) = by (same_row x y) (same_row z y) (same_row z x) refl refl refl (without x z l)
  where
    by : (a b c : Bool) → same_row x y ≡ a → same_row z y ≡ b → same_row z x ≡ c
        → times row_cmp z (filter (λ y. not (same_row x y)) l) ≡ cond c 0 (times row_cmp z l)
        → times row_cmp z (cond (not a) (y ∷ filter (λ y. not (same_row x y)) l) (filter (λ y. not (same_row x y)) l)) ≡ cond c 0 (cond b 1 0 + times row_cmp z l)
    by true true true ea eb ec rest = rest
    by true true false ea eb ec rest = let u : false ≡ true = sym ec ∙ ap (same_row z) (same_equal x y ea) ∙ eb in cc
    by true false true ea eb ec rest = rest
    by true false false ea eb ec rest = rest ∙ omega arith
    by false true true ea eb ec rest = let u : false ≡ true = sym ea ∙ ap (λ w. same_row w y) (sym (same_equal z x ec)) ∙ eb in cc
    by false true false ea eb ec rest = ap (λ b. cond b 1 0 + times row_cmp z (filter (λ y. not (same_row x y)) l)) eb ∙ ap (λ n. 1 + n) rest
    by false false true ea eb ec rest = ap (λ b. cond b 1 0 + times row_cmp z (filter (λ y. not (same_row x y)) l)) eb ∙ omega (arith, rest)
    by false false false ea eb ec rest = ap (λ b. cond b 1 0 + times row_cmp z (filter (λ y. not (same_row x y)) l)) eb ∙ ap (λ n. 0 + n) rest

pub times-firsts : (z : Row) (xs : List Row) → times row_cmp z (firsts xs) ≡ cond (list_any (same_row z) xs) 1 0
times-firsts z [] = refl
times-firsts z (x ∷ xs) = ap (λ n. cond (same_row z x) 1 0 + n) (without x z (firsts xs)) ∙ by (same_row z x) (times-firsts z xs)
  where
    by : (b : Bool) → times row_cmp z (firsts xs) ≡ cond (list_any (same_row z) xs) 1 0
        → cond b 1 0 + cond b 0 (times row_cmp z (firsts xs)) ≡ cond (b || list_any (same_row z) xs) 1 0
    by true rest = refl
    by false rest = ap (λ n. 0 + n) rest ∙ omega arith

pub SameBag-firsts : (xs ys : List Row) → SameBag xs ys → SameBag (firsts xs) (firsts ys)
SameBag-firsts xs ys same z = times-firsts z xs ∙ ap (λ b. cond b 1 0) (any-SameBag (same_row z) xs ys same) ∙ sym (times-firsts z ys)
