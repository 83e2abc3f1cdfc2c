-- Bits of a word that grows at its front, and benches that are probed one after the other.
use Rattle.std.proofs.Common.{◌≡◌, ◌⊎◌, inl, inr, ℕ, zero, suc, ◌+◌, ◌*◌, ◌/◌, ◌%◌, ◌^◌, ◌<◌, ◌≤◌, ◌==◌, Bool, true, false, cond, List, [], ◌∷◌, length, get_or, slice_set as set, subst, refl, sym, ap, ◌∙◌, arith}
use Rattle.std.proofs.Math.Nat.{pow-suc}
use Rattle.std.proofs.lemmas.Bool.{cases_lt}
use Rattle.std.proofs.lemmas.List.{get_or-set_other, get_or-set_same, length-set}
use Rattle.hq_detect.specs.declared.bench.Bench.{Bench}
use Rattle.hq_detect.specs.Probes.{has_bit, IsProbed}

doubled : (w x y : ℕ) → y ≡ x * 2 → (w + y) / 2 ≡ w / 2 + x
doubled w x y e = omega (arith, e)

even : (w x y : ℕ) → y ≡ x * 2 → (w + y) % 2 ≡ w % 2
even w x y e = omega (arith, e)

-- a bit below stays
below : (w n i : ℕ) → i < n → has_bit (w + 2 ^ n) i ≡ has_bit w i
below w zero i h = absurd (omega (arith, h))
below w (suc n) zero h = ap (λ k. k == 1) (even w (2 ^ n) (2 ^ suc n) (pow-suc 2 n))
below w (suc n) (suc i) h = ap (λ k. has_bit k i) (doubled w (2 ^ n) (2 ^ suc n) (pow-suc 2 n)) ∙ below (w / 2) n i (omega (arith, h))

half-below : (w x y : ℕ) → y ≡ x * 2 → w < y → w / 2 < x
half-below w x y e h = omega (arith, e, h)

-- the new bit is 1
at : (w n : ℕ) → w < 2 ^ n → has_bit (w + 2 ^ n) n ≡ true
at w zero h = let e : w ≡ 0 = omega (arith, h) in ap (λ k. (k + 1) % 2 == 1) e
at w (suc n) h = ap (λ k. has_bit k n) (doubled w (2 ^ n) (2 ^ suc n) (pow-suc 2 n)) ∙ at (w / 2) n (half-below w (2 ^ n) (2 ^ suc n) (pow-suc 2 n) h)

-- those above are 0
pub above : (w n i : ℕ) → w < 2 ^ n → n ≤ i → has_bit w i ≡ false
above w zero zero h le = let e : w ≡ 0 = omega (arith, h) in ap (λ k. k % 2 == 1) e
above w zero (suc i) h le = let e : w ≡ 0 = omega (arith, h) in above (w / 2) zero i (let f : w / 2 ≡ 0 = omega (arith, e) in omega (arith, f)) (omega arith)
above w (suc n) zero h le = absurd (omega (arith, le))
above w (suc n) (suc i) h le = above (w / 2) n i (half-below w (2 ^ n) (2 ^ suc n) (pow-suc 2 n) h) (omega (arith, le))

old-bits : (w n i : ℕ) (b : Bool) → i < n → has_bit (w + cond b (2 ^ n) 0) i ≡ has_bit w i
old-bits w n i true h = below w n i h
old-bits w n i false h = let e : w + 0 ≡ w = omega arith in ap (λ k. has_bit k i) e

new-bit : (w n : ℕ) (b : Bool) → w < 2 ^ n → has_bit (w + cond b (2 ^ n) 0) n ≡ b
new-bit w n true h = at w n h
new-bit w n false h = let e : w + 0 ≡ w = omega arith in ap (λ k. has_bit k n) e ∙ above w n n h (omega arith)

pub still-below : (w n : ℕ) (b : Bool) → w < 2 ^ n → w + cond b (2 ^ n) 0 < 2 ^ (n + 1)
still-below w n true h = let e : 2 ^ (n + 1) ≡ 2 ^ n * 2 = (let s : n + 1 ≡ suc n = omega arith in ap (λ k. 2 ^ k) s ∙ pow-suc 2 n) in omega (arith, h, e)
still-below w n false h = let e : 2 ^ (n + 1) ≡ 2 ^ n * 2 = (let s : n + 1 ≡ suc n = omega arith in ap (λ k. 2 ^ k) s ∙ pow-suc 2 n) in omega (arith, h, e)

-- the benches in front are probed, and the others are as they were
pub record Front {S H L : Type 0} (checks faults : H → ℕ) (sound : H → Type 0) (olds news : List (Bench S H L)) (i word : ℕ) : Type 0 where
  pub count : length news ≡ length olds
  pub small : word < 2 ^ i
  pub done : (n : ℕ) (none : Bench S H L) → n < i → IsProbed checks faults sound (get_or olds n none) (get_or news n none) (has_bit word n)
  pub rest : (n : ℕ) (none : Bench S H L) → i ≤ n → get_or news n none ≡ get_or olds n none

pub same-there : {X : Type 0} (xs : List X) (i : ℕ) (d e : X) → i < length xs → get_or xs i d ≡ get_or xs i e
same-there [] i d e h = absurd (omega (arith, h))
same-there (x ∷ xs) zero d e h = refl
same-there (x ∷ xs) (suc i) d e h = same-there xs i d e (omega (arith, h))

pub front-next : {S H L : Type 0} (checks faults : H → ℕ) (sound : H → Type 0) (olds news : List (Bench S H L)) (i word more : ℕ) (old new : Bench S H L) (b : Bool)
    → Front checks faults sound olds news i word → i < length news → old ≡ get_or news i old → IsProbed checks faults sound old new b → more ≡ word + cond b (2 ^ i) 0
    → Front checks faults sound olds (set news i new) (i + 1) more
front-next checks faults sound olds news i word more old new b front within is probed em = record {
  count = length-set news i new ∙ front.count;
  small = subst (λ k. k < 2 ^ (i + 1)) (sym em) (still-below word i b front.small);
  done = λ n none lt. elim (cases_lt n i) [
    | inl less ↦ subst (λ (x : Bench _ _ _). IsProbed checks faults sound (get_or olds n none) x (has_bit more n)) (sym (get_or-set_other news i n new none (λ e. let bad : ⊥ = omega (arith, less, e) in bad)))
        (subst (λ b. IsProbed checks faults sound (get_or olds n none) (get_or news n none) b) (sym (ap (λ k. has_bit k n) em ∙ old-bits word i n b less)) (front.done n none less))
    | inr ge ↦ let same : n ≡ i = omega (arith, ge, lt) in
        subst (λ k. IsProbed checks faults sound (get_or olds k none) (get_or (set news i new) k none) (has_bit more k)) (sym same)
        (subst (λ (x : Bench _ _ _). IsProbed checks faults sound (get_or olds i none) x (has_bit more i)) (sym (get_or-set_same news i new none within))
        (subst (λ b. IsProbed checks faults sound (get_or olds i none) new b) (sym (ap (λ k. has_bit k i) em ∙ new-bit word i b front.small))
        (subst (λ (x : Bench _ _ _). IsProbed checks faults sound x new b) (was none) probed)))
  ];
  rest = λ n none le. get_or-set_other news i n new none (λ e. let bad : ⊥ = omega (arith, le, e) in bad) ∙ front.rest n none (omega (arith, le));
}
  where
    was : (none : Bench _ _ _) → old ≡ get_or olds i none
    was none = is ∙ same-there news i old none within ∙ front.rest i none (omega arith)
