-- The nodes that are up.
use Rattle.std.proofs.Common.{◌≡◌, ◌+◌, ◌%◌, ◌<◌, ◌≤◌, ℕ, zero, suc, Bool, true, false, cond, List, [], ◌∷◌, length, filter, map, slice_index, slice_index_or, refl, sym, ap, ◌∙◌, subst, arith, add-zero}
use Rattle.std.specs.List.{list_any, range_with_len}
use Rattle.hq_detect.specs.Assign.{ups_from}
use Rattle.hq_motion.specs.Split.{nodes_up}
use Rattle.hq_laws.specs.Dealt.{dealt}
use Rattle.hq_dispatch.specs.Owners.{owners}

-- the nodes from i on of which the marks say that they are up
ups-none : (p : ℕ → Bool) (i m : ℕ) → ((k : ℕ) → p (i + k) ≡ false) → [] ≡ filter p (range_with_len i m)
ups-none p i zero h = refl
ups-none p i (suc m) h =
    let here : p i ≡ false = ap p (sym (add-zero i)) ∙ h 0 in
    ups-none p (i + 1) m (λ k. ap p (let e : i + 1 + k ≡ i + suc k = omega arith in e) ∙ h (suc k)) ∙ ap (λ b. cond b (i ∷ filter p (range_with_len (i + 1) m)) (filter p (range_with_len (i + 1) m))) (sym here)

ups : (p : ℕ → Bool) (i m : ℕ) (marks : List Bool) → length marks ≤ m → ((k : ℕ) → p (i + k) ≡ slice_index_or marks k false) → ups_from i marks ≡ filter p (range_with_len i m)
ups p i m [] few h = ups-none p i m h
ups p i zero (b ∷ marks) few h = absurd (omega (arith, few))
ups p i (suc m) (b ∷ marks) few h =
    let here : p i ≡ b = ap p (sym (add-zero i)) ∙ h 0 in
    let rest : ups_from (i + 1) marks ≡ filter p (range_with_len (i + 1) m) = ups p (i + 1) m marks (omega (arith, few)) (λ k. ap p (let e : i + 1 + k ≡ i + suc k = omega arith in e) ∙ h (suc k)) in
    by b rest ∙ ap (λ c. cond c (i ∷ filter p (range_with_len (i + 1) m)) (filter p (range_with_len (i + 1) m))) (sym here)
  where
    by : (b : Bool) → ups_from (i + 1) marks ≡ filter p (range_with_len (i + 1) m) → ups_from i (b ∷ marks) ≡ cond b (i ∷ filter p (range_with_len (i + 1) m)) (filter p (range_with_len (i + 1) m))
    by true e = ap (λ (l : List ℕ). i ∷ l) e
    by false e = e

pub ups-are : (marks : List Bool) → length marks ≤ 16 → ups_from 0 marks ≡ nodes_up marks
ups-are marks few = ups (λ n. slice_index_or marks n false) 0 16 marks few (λ k. ap (λ n. slice_index_or marks n false) (let e : 0 + k ≡ k = omega arith in e))

pub owners-dealt : (marks : List Bool) → length marks ≤ 16 → owners marks ≡ dealt (nodes_up marks)
owners-dealt marks few = ap (λ (l : List ℕ). dealt l) (ups-are marks few)

some-from : (i : ℕ) (marks : List Bool) → list_any (λ up. up) marks ≡ true → 0 < length (ups_from i marks)
some-from i [] h = cc
some-from i (true ∷ marks) h = omega arith
some-from i (false ∷ marks) h = some-from (i + 1) marks h

pub some-are : (marks : List Bool) → length marks ≤ 16 → list_any (λ up. up) marks ≡ true → 0 < length (nodes_up marks)
some-are marks few some = subst (λ (l : List ℕ). 0 < length l) (ups-are marks few) (some-from 0 marks some)

-- a list with this value at each place
pub all-of : (f : ℕ → ℕ) (xs : List ℕ) → length xs ≡ 16 → ((b : ℕ) → b < 16 → slice_index_or xs b 0 ≡ f b) → xs ≡ map f (range_with_len 0 16)
all-of f xs long each =
    by xs 0 (λ b within. each b (omega (arith, within, long)) ∙ ap f (let e : b ≡ 0 + b = omega arith in e)) ∙ ap (λ (n : ℕ). map f (range_with_len 0 n)) long
  where
    by : (xs : List ℕ) (a : ℕ) → ((b : ℕ) → b < length xs → slice_index_or xs b 0 ≡ f (a + b)) → xs ≡ map f (range_with_len a (length xs))
    by [] a each = refl
    by (x ∷ xs) a each =
        let here : x ≡ f a = each 0 (omega arith) ∙ ap f (add-zero a) in
        let rest : xs ≡ map f (range_with_len (a + 1) (length xs)) = by xs (a + 1) (λ b within. each (suc b) (omega (arith, within)) ∙ ap f (let e : a + suc b ≡ a + 1 + b = omega arith in e)) in
        λ i. here i ∷ rest i

zero-mod : (n : ℕ) → 0 < n → 0 % n ≡ 0
zero-mod n some = omega (arith, some)

-- the first bucket is dealt to the first of them
pub dealt-first : (nodes : List ℕ) → 0 < length nodes → slice_index (dealt nodes) 0 ≡ slice_index nodes 0
dealt-first nodes some = ap (λ (k : ℕ). slice_index nodes k) (zero-mod (length nodes) some)
