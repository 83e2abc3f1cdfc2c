-- So many of the first rows stand for all in a sort that gives no more.
use Rattle.std.proofs.Common.{◌≡◌, ℕ, zero, suc, ◌+◌, Bool, true, false, cond, List, [], ◌∷◌, ◌++◌, take, refl, sym, ◌∙◌, ap, arith}
use Rattle.std.specs.Ordering.{is_gt, is_eq}
use Rattle.std.specs.Cmp.{IsTotalOrder}
use Rattle.std.specs.declared.cmp.Ordering.{Ordering}
use Rattle.std.specs.declared.cmp.Ordering.TheVariants.{Less, Equal, Greater}
use Rattle.std.proofs.lemmas.Map.Lookups.{CmpEqualImpliesEq}
use Rattle.std.proofs.lemmas.Cmp.{tied_itself}
use Rattle.hq_value.specs.Sorting.{with_item, sorted_by, times}
use Rattle.hq_value.proofs.Sorting.{sorted_by-SameBagBy, times-append}
use Rattle.hq_algebra.specs.declared.op.SortKey.{SortKey}
use Rattle.hq_meaning.specs.Rows.{Row, ordered}
use Rattle.hq_ops.proofs.Ordered.{order_total, order_exact}

module _ {K : Type 0} {R : K → K → Ordering} (total : IsTotalOrder R) (exact : CmpEqualImpliesEq R) where
  times-with : (x y : K) (l : List K) → times R x (with_item R y l) ≡ times R x (y ∷ l)
  times-with x y [] = refl
  times-with x y (f ∷ r) = by (is_gt (R y f)) (times-with x y r)
    where
      by : (b : Bool) → times R x (with_item R y r) ≡ times R x (y ∷ r) → times R x (cond b (f ∷ with_item R y r) (y ∷ f ∷ r)) ≡ times R x (y ∷ f ∷ r)
      by true h = omega (arith, h)
      by false h = refl

  times-sorted : (x : K) (xs : List K) → times R x (sorted_by R xs) ≡ times R x xs
  times-sorted x [] = refl
  times-sorted x (y ∷ ys) = times-with x y (sorted_by R ys) ∙ ap (λ n. cond (is_eq (R x y)) 1 0 + n) (times-sorted x ys)

  again : (xs : List K) → sorted_by R (sorted_by R xs) ≡ sorted_by R xs
  again xs = sorted_by-SameBagBy total exact (sorted_by R xs) xs (λ x. times-sorted x xs)

  swapped : (xs ys : List K) → sorted_by R (xs ++ ys) ≡ sorted_by R (ys ++ xs)
  swapped xs ys = sorted_by-SameBagBy total exact (xs ++ ys) (ys ++ xs) (λ x. omega (arith, times-append R x xs ys, times-append R x ys xs))

  not-behind-itself : (y : K) → is_gt (R y y) ≡ true → ⊥
  not-behind-itself y h = by (R y y) (tied_itself total y) h
    where
      by : (o : Ordering) → o ≡ Equal → is_gt o ≡ true → ⊥
      by Less e h = cc
      by Equal e h = cc
      by Greater e h = cc

  -- the rest of a list in order is in order, and the first element stays in front of it
  rest-up : (y : K) (l s : List K) → with_item R y s ≡ y ∷ l → s ≡ l
  rest-up y l [] e = cc
  rest-up y l (z ∷ w) e = by (is_gt (R y z)) refl e
    where
      by : (b : Bool) → is_gt (R y z) ≡ b → cond b (z ∷ with_item R y w) (y ∷ z ∷ w) ≡ y ∷ l → z ∷ w ≡ l
      by true g e = let same : z ≡ y = cc in absurd (not-behind-itself y (ap (λ u. is_gt (R y u)) (sym same) ∙ g))
      by false g e = cc

  first-up : (y : K) (l : List K) (n : ℕ) → with_item R y l ≡ y ∷ l → with_item R y (take n l) ≡ y ∷ take n l
  first-up y [] zero e = refl
  first-up y [] (suc n) e = refl
  first-up y (z ∷ w) zero e = refl
  first-up y (z ∷ w) (suc n) e = by (is_gt (R y z)) refl e
    where
      by : (b : Bool) → is_gt (R y z) ≡ b → cond b (z ∷ with_item R y w) (y ∷ z ∷ w) ≡ y ∷ z ∷ w → cond b (z ∷ with_item R y (take n w)) (y ∷ z ∷ take n w) ≡ y ∷ z ∷ take n w
      by true g e = let same : z ≡ y = cc in absurd (not-behind-itself y (ap (λ u. is_gt (R y u)) (sym same) ∙ g))
      by false g e = refl

  -- what is in order is in order up to any place
  front-up : (l : List K) (n : ℕ) → sorted_by R l ≡ l → sorted_by R (take n l) ≡ take n l
  front-up [] zero e = refl
  front-up [] (suc n) e = refl
  front-up (y ∷ l) zero e = refl
  front-up (y ∷ l) (suc n) e =
      let up : sorted_by R l ≡ l = rest-up y l (sorted_by R l) e in
      ap (with_item R y) (front-up l n up) ∙ first-up y l n (ap (with_item R y) (sym up) ∙ e)

  take-take : (n : ℕ) (y : K) (l : List K) → take n (y ∷ l) ≡ take n (y ∷ take n l)
  take-take zero y l = refl
  take-take (suc n) y l = ap (λ k. y ∷ k) (shorter n l)
    where
      shorter : (n : ℕ) (l : List K) → take n l ≡ take n (take (suc n) l)
      shorter zero l = refl
      shorter (suc n) [] = refl
      shorter (suc n) (x ∷ l) = ap (λ k. x ∷ k) (shorter n l)

  -- one element more moves nothing from behind a place before it
  take-with : (n : ℕ) (m : K) (l : List K) → take n (with_item R m l) ≡ take n (with_item R m (take n l))
  take-with zero m l = refl
  take-with (suc n) m [] = refl
  take-with (suc n) m (y ∷ l) = by (is_gt (R m y)) (take-with n m l)
    where
      by : (b : Bool) → take n (with_item R m l) ≡ take n (with_item R m (take n l))
          → take (suc n) (cond b (y ∷ with_item R m l) (m ∷ y ∷ l)) ≡ take (suc n) (cond b (y ∷ with_item R m (take n l)) (m ∷ y ∷ take n l))
      by true rest = ap (λ k. y ∷ k) rest
      by false rest = ap (λ k. m ∷ k) (take-take n y l)

  take-again : (n : ℕ) (l : List K) → take n (take n l) ≡ take n l
  take-again zero l = refl
  take-again (suc n) [] = refl
  take-again (suc n) (x ∷ l) = ap (λ k. x ∷ k) (take-again n l)

  more-front : (n : ℕ) (l more : List K) → sorted_by R l ≡ l → take n (sorted_by R (more ++ take n l)) ≡ take n (sorted_by R (more ++ l))
  more-front n l [] up = ap (take n) (front-up l n up) ∙ take-again n l ∙ ap (take n) (sym up)
  more-front n l (m ∷ more) up =
      take-with n m (sorted_by R (more ++ take n l)) ∙ ap (λ k. take n (with_item R m k)) (more-front n l more up) ∙ sym (take-with n m (sorted_by R (more ++ l)))

  more-sorted : (xs more : List K) → sorted_by R (more ++ sorted_by R xs) ≡ sorted_by R (more ++ xs)
  more-sorted xs [] = again xs
  more-sorted xs (m ∷ more) = ap (with_item R m) (more-sorted xs more)

  pub first-stand : (n : ℕ) (xs more : List K) → take n (sorted_by R (take n (sorted_by R xs) ++ more)) ≡ take n (sorted_by R (xs ++ more))
  first-stand n xs more =
      ap (take n) (swapped (take n (sorted_by R xs)) more) ∙ more-front n (sorted_by R xs) more (again xs) ∙ ap (take n) (more-sorted xs more ∙ swapped more xs)

pub first-rows-stand : (order : List SortKey) (n : ℕ) (rows more : List Row) → take n (ordered order (take n (ordered order rows) ++ more)) ≡ take n (ordered order (rows ++ more))
first-rows-stand order n rows more = first-stand (order_total order) (order_exact order) n rows more
