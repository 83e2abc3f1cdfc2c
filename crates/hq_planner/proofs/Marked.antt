-- Items of a list of which some are marked.
use Rattle.std.proofs.Common.{◌≡◌, ℕ, zero, suc, ◌+◌, ◌<◌, ◌≤◌, Bool, true, false, not, ◌&&◌, ◌||◌, nat_eq, List, [], ◌∷◌, ◌++◌, length, map, take, get_or, Some, refl, sym, ◌∙◌, ap, arith, append_assoc, length-append, slice_get}
use Rattle.std.specs.List.{list_any, range_with_len}
use Rattle.std.proofs.lemmas.Bool.{eqb-true, eq-eqb}
use Rattle.std.proofs.lemmas.List.FromFn.{length-range_with_len, get_or-range_with_len}
use Rattle.hq_value.specs.Tables.{are_distinct}
use Rattle.hq_value.specs.declared.kind.Kind.{Kind}
use Rattle.hq_algebra.specs.Kinds.{◌>>=◌, every}
use Rattle.hq_algebra.specs.Operators.{keys_kinds}
use Rattle.hq_laws.proofs.Lists.{both_true}
use Rattle.hq_planner.specs.Marked.{marked, picked}

-- a list that is taken whole
pub take-past : {A : Type 0} (xs : List A) (i : ℕ) → length xs ≤ i → take i xs ≡ xs
take-past [] zero h = refl
take-past [] (suc i) h = refl
take-past (x ∷ xs) zero h = absurd (omega (arith, h))
take-past (x ∷ xs) (suc i) h = ap (λ l. x ∷ l) (take-past xs i (omega (arith, h)))

-- one item more
one-more : {A : Type 0} (marks : List Bool) (xs : List A) (i : ℕ) (x : A) → i < length marks → i < length xs → x ≡ get_or xs i x
    → marked (take (suc i) marks) (take (suc i) xs) ≡ marked (take i marks) (take i xs) ++ picked (get_or marks i false) x
one-more [] xs i x hm hx ex = absurd (omega (arith, hm))
one-more (b ∷ marks) [] i x hm hx ex = absurd (omega (arith, hx))
one-more (true ∷ marks) (y ∷ xs) zero x hm hx ex = ap (λ z. z ∷ []) (sym ex)
one-more (false ∷ marks) (y ∷ xs) zero x hm hx ex = refl
one-more (true ∷ marks) (y ∷ xs) (suc i) x hm hx ex = ap (λ l. y ∷ l) (one-more marks xs i x (omega (arith, hm)) (omega (arith, hx)) ex)
one-more (false ∷ marks) (y ∷ xs) (suc i) x hm hx ex = one-more marks xs i x (omega (arith, hm)) (omega (arith, hx)) ex

pub marked-next : {A : Type 0} (marks : List Bool) (xs : List A) (i : ℕ) (x : A) (old new : List A) → i < length marks → i < length xs → x ≡ get_or xs i x
    → old ≡ marked (take i marks) (take i xs) → new ≡ old ++ picked (get_or marks i false) x → new ≡ marked (take (i + 1) marks) (take (i + 1) xs)
marked-next marks xs i x old new hm hx ex before after =
    let one : suc i ≡ i + 1 = omega arith in
    after ∙ ap (λ l. l ++ picked (get_or marks i false) x) before ∙ sym (one-more marks xs i x hm hx ex) ∙ (λ t. marked (take (one t) marks) (take (one t) xs))

pub places-next : (marks : List Bool) (i : ℕ) (old new : List ℕ) → i < length marks → old ≡ marked (take i marks) (take i (range_with_len 0 (length marks)))
    → new ≡ old ++ picked (get_or marks i false) i → new ≡ marked (take (i + 1) marks) (take (i + 1) (range_with_len 0 (length marks)))
places-next marks i old new h before after =
    let l : length (range_with_len 0 (length marks)) ≡ length marks = length-range_with_len 0 (length marks) in
    let zero : 0 + i ≡ i = omega arith in
    marked-next marks (range_with_len 0 (length marks)) i i old new h (omega (arith, l, h)) (sym (get_or-range_with_len 0 (length marks) i i h ∙ zero)) before after

pub places-last : (marks : List Bool) (i : ℕ) (all : List ℕ) → length marks ≤ i → all ≡ marked (take i marks) (take i (range_with_len 0 (length marks))) → all ≡ marked marks (range_with_len 0 (length marks))
places-last marks i all h before =
    let l : length (range_with_len 0 (length marks)) ≡ length marks = length-range_with_len 0 (length marks) in
    before ∙ (λ t. marked (take-past marks i h t) (take-past (range_with_len 0 (length marks)) i (omega (arith, l, h)) t))

-- how many there are
pub length-marked : {A : Type 0} (marks : List Bool) (xs : List A) → length (marked marks xs) ≤ length xs
length-marked [] xs = omega arith
length-marked (m ∷ marks) [] = omega arith
length-marked (true ∷ marks) (x ∷ xs) = let r = length-marked marks xs in omega (arith, r)
length-marked (false ∷ marks) (x ∷ xs) = let r = length-marked marks xs in omega (arith, r)

pub lengths-marked : {A B : Type 0} (marks : List Bool) (xs : List A) (ys : List B) → length xs ≡ length ys → length (marked marks xs) ≡ length (marked marks ys)
lengths-marked [] xs ys e = refl
lengths-marked (m ∷ marks) [] [] e = refl
lengths-marked (m ∷ marks) [] (y ∷ ys) e = absurd (omega (arith, e))
lengths-marked (m ∷ marks) (x ∷ xs) [] e = absurd (omega (arith, e))
lengths-marked (true ∷ marks) (x ∷ xs) (y ∷ ys) e = ap suc (lengths-marked marks xs ys (omega (arith, e)))
lengths-marked (false ∷ marks) (x ∷ xs) (y ∷ ys) e = lengths-marked marks xs ys (omega (arith, e))

pub map-marked : {A B : Type 0} (f : A → B) (marks : List Bool) (xs : List A) → map f (marked marks xs) ≡ marked marks (map f xs)
map-marked f [] xs = refl
map-marked f (m ∷ marks) [] = refl
map-marked f (true ∷ marks) (x ∷ xs) = ap (λ l. f x ∷ l) (map-marked f marks xs)
map-marked f (false ∷ marks) (x ∷ xs) = map-marked f marks xs

-- the kinds at the places that are marked
kind-at : (before : List Kind) (k : Kind) (kinds : List Kind) (n : ℕ) → length before ≡ n → slice_get (before ++ k ∷ kinds) n ≡ Some k
kind-at [] k kinds n e = ap (slice_get (k ∷ kinds)) (sym e)
kind-at (b ∷ before) k kinds zero e = absurd (omega (arith, e))
kind-at (b ∷ before) k kinds (suc n) e = kind-at before k kinds n (omega (arith, e))

length-last : (before : List Kind) (k : Kind) (n : ℕ) → length before ≡ n → length (before ++ k ∷ []) ≡ n + 1
length-last before k n e = let l = length-append before (k ∷ []) in omega (arith, l, e)

kinds-from : (before kinds : List Kind) (marks : List Bool) (n : ℕ) → length before ≡ n → length marks ≡ length kinds → every (slice_get (before ++ kinds)) (marked marks (range_with_len n (length marks))) ≡ Some (marked marks kinds)
kinds-from before kinds [] n b e = refl
kinds-from before [] (m ∷ marks) n b e = absurd (omega (arith, e))
kinds-from before (k ∷ kinds) (true ∷ marks) n b e =
    let rest : every (slice_get (before ++ k ∷ kinds)) (marked marks (range_with_len (n + 1) (length marks))) ≡ Some (marked marks kinds) =
    ap (λ l. every (slice_get l) (marked marks (range_with_len (n + 1) (length marks)))) (sym (append_assoc before (k ∷ []) kinds)) ∙ kinds-from (before ++ k ∷ []) kinds marks (n + 1) (length-last before k n b) (omega (arith, e)) in
    λ i. kind-at before k kinds n b i >>= (λ y. rest i >>= (λ ys. Some (y ∷ ys)))
kinds-from before (k ∷ kinds) (false ∷ marks) n b e =
    ap (λ l. every (slice_get l) (marked marks (range_with_len (n + 1) (length marks)))) (sym (append_assoc before (k ∷ []) kinds)) ∙ kinds-from (before ++ k ∷ []) kinds marks (n + 1) (length-last before k n b) (omega (arith, e))

pub kinds-marked : (kinds : List Kind) (marks : List Bool) → length marks ≡ length kinds → keys_kinds kinds (marked marks (range_with_len 0 (length marks))) ≡ Some (marked marks kinds)
kinds-marked kinds marks e = kinds-from [] kinds marks 0 refl e

-- among distinct items no two that are marked are the same
either_false : (a b : Bool) → (a || b) ≡ false → (a ≡ false) × (b ≡ false)
either_false true b h = cc
either_false false b h = (refl, h)

is_not : (a : Bool) → not a ≡ true → a ≡ false
is_not true h = cc
is_not false h = refl

any-marked : {A : Type 0} (p : A → Bool) (marks : List Bool) (xs : List A) → list_any p xs ≡ false → list_any p (marked marks xs) ≡ false
any-marked p [] xs h = refl
any-marked p (m ∷ marks) [] h = refl
any-marked p (true ∷ marks) (x ∷ xs) h = let b = either_false (p x) (list_any p xs) h in λ i. b.0 i || any-marked p marks xs b.1 i
any-marked p (false ∷ marks) (x ∷ xs) h = any-marked p marks xs (either_false (p x) (list_any p xs) h).1

pub distinct-marked : {A : Type 0} (same : A → A → Bool) (marks : List Bool) (xs : List A) → are_distinct same xs ≡ true → are_distinct same (marked marks xs) ≡ true
distinct-marked same [] xs h = refl
distinct-marked same (m ∷ marks) [] h = refl
distinct-marked same (true ∷ marks) (x ∷ xs) h =
    let b = both_true (not (list_any (same x) xs)) (are_distinct same xs) h in
    λ i. not (any-marked (same x) marks xs (is_not (list_any (same x) xs) b.0) i) && distinct-marked same marks xs b.1 i
distinct-marked same (false ∷ marks) (x ∷ xs) h = distinct-marked same marks xs (both_true (not (list_any (same x) xs)) (are_distinct same xs) h).1

-- numbers whose images are distinct
apart : (f : ℕ → ℕ) (x k : ℕ) → nat_eq (f x) (f k) ≡ false → nat_eq x k ≡ false
apart f x k h = by (nat_eq x k) refl
  where
    by : (b : Bool) → nat_eq x k ≡ b → b ≡ false
    by false e = refl
    by true e =
        let same : nat_eq (f x) (f k) ≡ true = eq-eqb (f x) (f k) (ap f (eqb-true x k e)) in
        let bad : true ≡ false = sym same ∙ h in cc

none-among : (f : ℕ → ℕ) (x : ℕ) (ks : List ℕ) → list_any (nat_eq (f x)) (map f ks) ≡ false → list_any (nat_eq x) ks ≡ false
none-among f x [] h = refl
none-among f x (k ∷ ks) h = let b = either_false (nat_eq (f x) (f k)) (list_any (nat_eq (f x)) (map f ks)) h in λ i. apart f x k b.0 i || none-among f x ks b.1 i

pub distinct-map : (f : ℕ → ℕ) (ks : List ℕ) → are_distinct nat_eq (map f ks) ≡ true → are_distinct nat_eq ks ≡ true
distinct-map f [] h = refl
distinct-map f (k ∷ ks) h =
    let b = both_true (not (list_any (nat_eq (f k)) (map f ks))) (are_distinct nat_eq (map f ks)) h in
    λ i. not (none-among f k ks (is_not (list_any (nat_eq (f k)) (map f ks)) b.0) i) && distinct-map f ks b.1 i
