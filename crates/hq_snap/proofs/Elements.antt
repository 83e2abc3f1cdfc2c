-- Elements of lists that grow at their end, or of which one is set.
use Rattle.std.proofs.Common.{◌≡◌, ◌⊎◌, ℕ, zero, suc, ◌+◌, ◌<◌, ◌≤◌, List, [], ◌∷◌, ◌++◌, length, replicate, slice_index_or, refl, sym, ◌∙◌, ap, subst, arith, inl, inr}
use Rattle.std.proofs.lemmas.Bool.{cases_eq}
use Rattle.std.proofs.Math.ListN.{get_or-append}
use Rattle.std.proofs.Math.Seq.{get_or-append_seam}

pub below_or : (n k : ℕ) → (n < k) ⊎ (k ≤ n)
below_or n zero = inr (omega arith)
below_or zero (suc k) = inl (omega arith)
below_or (suc n) (suc k) = elim (below_or n k) [ inl h ↦ inl (omega arith) | inr h ↦ inr (omega arith) ]

-- what holds of each element, and of one that is pushed
pub pushed : {A : Type 0} (Q : ℕ → A → Type 0) (d : A) (xs : List A) (x : A) (k : ℕ) → length xs ≡ k → Q k x
    → ((n : ℕ) → n < k → Q n (slice_index_or xs n d)) → (n : ℕ) → n < k + 1 → Q n (slice_index_or (xs ++ x ∷ []) n d)
pushed Q d xs x k e here below n h =
    elim (cases_eq n k) [
      | inl same ↦ (let seam : slice_index_or (xs ++ x ∷ []) n d ≡ x = ap (λ i. slice_index_or (xs ++ x ∷ []) i d) (same ∙ sym e) ∙ get_or-append_seam xs x [] d in
          subst (Q n) (sym seam) (subst (λ i. Q i x) (sym same) here))
      | inr other ↦ subst (Q n) (sym (get_or-append xs (x ∷ []) d n (omega arith))) (below n (omega arith))
    ]

-- all elements are the default
pub get_same : {A : Type 0} (k n : ℕ) (d : A) → slice_index_or (replicate k d) n d ≡ d
get_same zero n d = refl
get_same (suc k) zero d = refl
get_same (suc k) (suc n) d = get_same k n d

pub get_replicated : {A : Type 0} (k n : ℕ) (x d : A) → n < k → slice_index_or (replicate k x) n d ≡ x
get_replicated zero n x d h = absurd (omega arith)
get_replicated (suc k) zero x d h = refl
get_replicated (suc k) (suc n) x d h = get_replicated k n x d (omega arith)
