-- Which nodes run a slice, and which receive its rows.
use Rattle.std.proofs.Common.{◌≡◌, ◌∙◌, ℕ, zero, suc, ◌<◌, ◌==◌, Bool, true, false, cond, ◌||◌, List, [], ◌∷◌, length, slice_index, refl, sym, ap, subst, arith}
use Rattle.std.specs.List.{list_any}
use Rattle.std.proofs.lemmas.Bool.{eqb-true}
use Rattle.std.proofs.lemmas.Bool.Decides.{nat_tests}
use Rattle.hq_algebra.specs.declared.plan.Motion.{Motion}
use Rattle.hq_algebra.specs.declared.plan.Motion.TheVariants as motion
use Rattle.hq_meaning.specs.Nodes.{nodes_of, lowest}
use Rattle.hq_motion.specs.Split.{receivers}
use Rattle.hq_dispatch.specs.Basis.{Asked}
use Rattle.hq_dispatch.specs.Owners.{is_used, has_flag, flagged}
use Rattle.hq_dispatch.specs.Standing.{IsAsked}
use Rattle.hq_dispatch.proofs.Ranges.{is-kept}

-- a node that is up is one of those of the marks
pub up-within : (marks : List Bool) (n : ℕ) → is_used marks n ≡ true → n < length marks
up-within [] zero h = cc
up-within [] (suc n) h = cc
up-within (m ∷ marks) zero h = omega arith
up-within (m ∷ marks) (suc n) h = let r = up-within marks n h in omega (arith, r)

first-member : (xs : List ℕ) → 0 < length xs → list_any (λ m. m == slice_index xs 0) xs ≡ true
first-member [] some = absurd (omega (arith, some))
first-member (x ∷ xs) some = ap (λ (b : Bool). b || list_any (λ m. m == x) xs) (same x)
  where
    same : (n : ℕ) → (n == n) ≡ true
    same n = grind (arith, nat_tests)

pub flag-among : (flags : List Bool) (n : ℕ) → n < 16 → list_any (λ m. m == n) (flagged flags) ≡ has_flag flags n
flag-among flags n within = is-kept (has_flag flags) 0 16 n (omega arith) (omega (arith, within))

module _ (q : Asked) (is : IsAsked q) where
  pub used-within : (n : ℕ) → is_used q.marks n ≡ true → n < length q.marks
  used-within n used = up-within q.marks n used

  pub used-below : (n : ℕ) → is_used q.marks n ≡ true → n < 16
  used-below n used = let w = up-within q.marks n used in let few = is.few in omega (arith, w, few)

  among : (n : ℕ) → n < 16 → list_any (λ m. m == n) (nodes_of q.basis.owner) ≡ is_used q.marks n
  among n within = ap (list_any (λ m. m == n)) is.in_use ∙ is-kept (is_used q.marks) 0 16 n (omega arith) (omega (arith, within))

  pub lowest-below : lowest q.basis.owner < 16
  lowest-below = subst (λ (n : ℕ). n < 16) is.first (is.below 0 0 (let n = is.sixteen in omega (arith, n)))

  pub lowest-used : is_used q.marks (lowest q.basis.owner) ≡ true
  lowest-used =
      sym (among (lowest q.basis.owner) lowest-below)
      ∙ first-member (nodes_of q.basis.owner) (subst (λ (l : List ℕ). 0 < length l) (sym is.in_use) is.some)

  one : (n : ℕ) (b : Bool) → (lowest q.basis.owner == n) ≡ b → (b || false) ≡ true → is_used q.marks n ≡ true
  one n true e h = ap (is_used q.marks) (sym (eqb-true (lowest q.basis.owner) n e)) ∙ lowest-used
  one n false e h = cc

  -- a node that runs a slice is in use
  module _ (flags : List Bool) (g : Bool) (are : flagged flags ≡ cond g (lowest q.basis.owner ∷ []) (nodes_of q.basis.owner)) (n : ℕ) where
    pub run-used : n < 16 → has_flag flags n ≡ true → is_used q.marks n ≡ true
    run-used within on = by g (sym (ap (list_any (λ m. m == n)) are) ∙ flag-among flags n within ∙ on)
      where
        by : (g : Bool) → list_any (λ m. m == n) (cond g (lowest q.basis.owner ∷ []) (nodes_of q.basis.owner)) ≡ true → is_used q.marks n ≡ true
        by true h = one n (lowest q.basis.owner == n) refl h
        by false h = sym (among n within) ∙ h

    -- and each in use does that receives no Gather
    pub all-run : g ≡ false → is_used q.marks n ≡ true → has_flag flags n ≡ true
    all-run off used =
        let within = used-below n used in
        sym (flag-among flags n within) ∙ ap (list_any (λ m. m == n)) (are ∙ ap (λ (b : Bool). cond b (lowest q.basis.owner ∷ []) (nodes_of q.basis.owner)) off) ∙ among n within ∙ used

    pub not-run : is_used q.marks n ≡ true → has_flag flags n ≡ false → g ≡ true
    not-run used off = by g refl
      where
        by : (b : Bool) → g ≡ b → g ≡ true
        by true e = e
        by false e = let bad : true ≡ false = sym (all-run e used) ∙ off in cc

  -- a node that receives rows is in use
  pub take-used : (flags : List Bool) (out : Motion) → flagged flags ≡ receivers out q.basis.owner → (n : ℕ) → n < 16 → has_flag flags n ≡ true → is_used q.marks n ≡ true
  take-used flags out are n within on = by out (sym (ap (list_any (λ m. m == n)) are) ∙ flag-among flags n within ∙ on)
    where
      by : (out : Motion) → list_any (λ m. m == n) (receivers out q.basis.owner) ≡ true → is_used q.marks n ≡ true
      by motion.Gather h = one n (lowest q.basis.owner == n) refl h
      by motion.Broadcast h = sym (among n within) ∙ h
      by (motion.Redistribute keys) h = sym (among n within) ∙ h
      by motion.Result h = cc
