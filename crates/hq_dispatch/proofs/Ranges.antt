-- Lists over the nodes and over the buckets.
use Rattle.std.proofs.Common.{◌≡◌, ◌==◌, ◌+◌, ◌<◌, ◌≤◌, ℕ, zero, suc, Bool, true, false, cond, ◌||◌, List, [], ◌∷◌, ◌++◌, filter, flat_map, refl, ap, sym, ◌∙◌, append_assoc, arith}
use Rattle.std.specs.List.{list_any, range_with_len}
use Rattle.std.proofs.lemmas.Bool.{eqb-true}

-- lists of lists joined
pub flat-append : {A B : Type 0} (f : A → List B) (xs ys : List A) → flat_map f (xs ++ ys) ≡ flat_map f xs ++ flat_map f ys
flat-append f [] ys = refl
flat-append {A} {B} f (x ∷ xs) ys = ap (λ (l : List B). f x ++ l) (flat-append f xs ys) ∙ sym (append_assoc (f x) (flat_map f xs) (flat_map f ys))

pub flat-flat : {A B C : Type 0} (f : B → List C) (g : A → List B) (xs : List A) → flat_map f (flat_map g xs) ≡ flat_map (λ x. flat_map f (g x)) xs
flat-flat f g [] = refl
flat-flat {A} {B} {C} f g (x ∷ xs) = flat-append f (g x) (flat_map g xs) ∙ ap (λ (l : List C). flat_map f (g x) ++ l) (flat-flat f g xs)

-- those where a test holds
pub flat-filter : {A B : Type 0} (f : A → List B) (p : A → Bool) (xs : List A) → flat_map (λ x. cond (p x) (f x) []) xs ≡ flat_map f (filter p xs)
flat-filter f p [] = refl
flat-filter {A} {B} f p (x ∷ xs) = by (p x) (flat-filter f p xs)
  where
    by : (b : Bool) → flat_map (λ x. cond (p x) (f x) []) xs ≡ flat_map f (filter p xs) → cond b (f x) [] ++ flat_map (λ x. cond (p x) (f x) []) xs ≡ flat_map f (cond b (x ∷ filter p xs) (filter p xs))
    by true e = ap (λ (l : List B). f x ++ l) e
    by false e = e

-- a number below the range is not among those of it that are kept
below-none : (p : ℕ → Bool) (a k n : ℕ) → n < a → list_any (λ c. c == n) (filter p (range_with_len a k)) ≡ false
below-none p a zero n less = refl
below-none p a (suc k) n less = by (p a) (below-none p (a + 1) k n (omega (arith, less)))
  where
    other : (a n : ℕ) → n < a → (a == n) ≡ false
    other a n less = grind arith

    by : (b : Bool) → list_any (λ c. c == n) (filter p (range_with_len (a + 1) k)) ≡ false → list_any (λ c. c == n) (cond b (a ∷ filter p (range_with_len (a + 1) k)) (filter p (range_with_len (a + 1) k))) ≡ false
    by true e = ap (λ b. b || list_any (λ c. c == n) (filter p (range_with_len (a + 1) k))) (other a n less) ∙ e
    by false e = e

-- a number of the range is among those that are kept where it is kept
pub is-kept : (p : ℕ → Bool) (a k n : ℕ) → a ≤ n → n < a + k → list_any (λ c. c == n) (filter p (range_with_len a k)) ≡ p n
is-kept p a zero n low high = absurd (omega (arith, low, high))
is-kept p a (suc k) n low high = by (a == n) refl (p a) refl (λ l. is-kept p (a + 1) k n l (omega (arith, high)))
  where
    above : (a n : ℕ) → a ≤ n → (a == n) ≡ false → a + 1 ≤ n
    above a n low e = grind arith

    by : (c : Bool) → (a == n) ≡ c → (b : Bool) → p a ≡ b → (a + 1 ≤ n → list_any (λ c. c == n) (filter p (range_with_len (a + 1) k)) ≡ p n) → list_any (λ c. c == n) (cond b (a ∷ filter p (range_with_len (a + 1) k)) (filter p (range_with_len (a + 1) k))) ≡ p n
    by true e true g rest = ap (λ b. b || list_any (λ c. c == n) (filter p (range_with_len (a + 1) k))) e ∙ sym g ∙ ap p (eqb-true a n e)
    by true e false g rest =
        let same : a ≡ n = eqb-true a n e in
        below-none p (a + 1) k n (omega (arith, same)) ∙ sym g ∙ ap p same
    by false e true g rest = ap (λ b. b || list_any (λ c. c == n) (filter p (range_with_len (a + 1) k))) e ∙ rest (above a n low e)
    by false e false g rest = rest (above a n low e)

pub same-kept : (p q : ℕ → Bool) (a k : ℕ) → ((n : ℕ) → a ≤ n → n < a + k → p n ≡ q n) → filter p (range_with_len a k) ≡ filter q (range_with_len a k)
same-kept p q a zero h = refl
same-kept p q a (suc k) h = λ i. cond (h a (omega arith) (omega arith) i) (a ∷ same-kept p q (a + 1) k (λ n l m. h n (omega (arith, l)) (omega (arith, m))) i) (same-kept p q (a + 1) k (λ n l m. h n (omega (arith, l)) (omega (arith, m))) i)

-- those that are among the kept ones are the kept ones
pub kept-again : (p : ℕ → Bool) → filter (λ b. list_any (λ c. c == b) (filter p (range_with_len 0 16))) (range_with_len 0 16) ≡ filter p (range_with_len 0 16)
kept-again p = same-kept (λ b. list_any (λ c. c == b) (filter p (range_with_len 0 16))) p 0 16 (λ n low high. is-kept p 0 16 n low high)

-- one number alone
past-none : (n a k : ℕ) → n < a → filter (λ m. m == n) (range_with_len a k) ≡ []
past-none n a zero less = refl
past-none n a (suc k) less = by (a == n) refl (past-none n (a + 1) k (omega (arith, less)))
  where
    by : (c : Bool) → (a == n) ≡ c → filter (λ m. m == n) (range_with_len (a + 1) k) ≡ [] → cond c (a ∷ filter (λ m. m == n) (range_with_len (a + 1) k)) (filter (λ m. m == n) (range_with_len (a + 1) k)) ≡ []
    by true e rest = absurd (let same : a ≡ n = eqb-true a n e in omega (arith, same, less))
    by false e rest = rest

pub one-kept : (n a k : ℕ) → a ≤ n → n < a + k → filter (λ m. m == n) (range_with_len a k) ≡ n ∷ []
one-kept n a zero low high = absurd (omega (arith, low, high))
one-kept n a (suc k) low high = by (a == n) refl (λ l. one-kept n (a + 1) k l (omega (arith, high)))
  where
    above : (a n : ℕ) → a ≤ n → (a == n) ≡ false → a + 1 ≤ n
    above a n low e = grind arith

    by : (c : Bool) → (a == n) ≡ c → (a + 1 ≤ n → filter (λ m. m == n) (range_with_len (a + 1) k) ≡ n ∷ []) → cond c (a ∷ filter (λ m. m == n) (range_with_len (a + 1) k)) (filter (λ m. m == n) (range_with_len (a + 1) k)) ≡ n ∷ []
    by true e rest =
        let same : a ≡ n = eqb-true a n e in
        λ i. same i ∷ past-none n (a + 1) k (omega (arith, same)) i
    by false e rest = rest (above a n low e)
