-- What changes of the places when one of them does.
use Rattle.std.proofs.Common.{◌≡◌, ◌≢◌, ◌⊎◌, ◌+◌, ◌<◌, ◌≤◌, ℕ, zero, suc, List, [], slice_set, refl, ap, sym, subst, ◌∙◌, inl, inr, arith, append-nil}
use Rattle.std.proofs.lemmas.List.{get_or-set_other}
use Rattle.hq_lane.specs.Lanes.{file_of, id_of}
use Rattle.hq_lane.specs.BucketFiles.{BucketState, no_file, good_bytes, own_bytes}
use Rattle.hq_table.specs.Home.{HasGrown}

-- one number is less, equal or greater
pub compared : (b k : ℕ) → (b < k) ⊎ ((b ≡ k) ⊎ (k < b))
compared zero zero = inr (inl refl)
compared zero (suc k) = inl (omega arith)
compared (suc b) zero = inr (inr (omega arith))
compared (suc b) (suc k) = by (compared b k)
  where
    by : (b < k) ⊎ ((b ≡ k) ⊎ (k < b)) → (suc b < suc k) ⊎ ((suc b ≡ suc k) ⊎ (suc k < suc b))
    by (inl less) = inl (omega (arith, less))
    by (inr (inl same)) = inr (inl (ap suc same))
    by (inr (inr more)) = inr (inr (omega (arith, more)))

other-place : (now new : List BucketState) (k b : ℕ) → new ≡ slice_set now k (file_of new k) → b ≢ k → file_of new b ≡ file_of now b
other-place now new k b set n = ap (λ ps. file_of ps b) set ∙ get_or-set_other now k b (file_of new k) (no_file (id_of 0 0 0)) n

-- a fact of each place up to one more
pub one-more : (R : ℕ → BucketState → BucketState → Type 0) (old now new : List BucketState) (k : ℕ)
    → ((b : ℕ) → b < k → R b (file_of old b) (file_of now b)) → ((b : ℕ) → k ≤ b → file_of now b ≡ file_of old b)
    → new ≡ slice_set now k (file_of new k) → R k (file_of now k) (file_of new k) → (b : ℕ) → b < k + 1 → R b (file_of old b) (file_of new b)
one-more R old now new k before ahead set this b within = by (compared b k)
  where
    by : (b < k) ⊎ ((b ≡ k) ⊎ (k < b)) → R b (file_of old b) (file_of new b)
    by (inl less) = subst (R b (file_of old b)) (sym (other-place now new k b set (λ e. absurd (omega (arith, less, e))))) (before b less)
    by (inr (inl same)) = subst (λ n. R n (file_of old n) (file_of new n)) (sym same) (subst (λ p. R k p (file_of new k)) (ahead k (omega arith)) this)
    by (inr (inr more)) = absurd (omega (arith, more, within))

-- the places behind stay
pub still-ahead : (old now new : List BucketState) (k : ℕ) → ((b : ℕ) → k ≤ b → file_of now b ≡ file_of old b) → new ≡ slice_set now k (file_of new k)
    → (b : ℕ) → k + 1 ≤ b → file_of new b ≡ file_of old b
still-ahead old now new k ahead set b behind = other-place now new k b set (λ e. absurd (omega (arith, behind, e))) ∙ ahead b (omega (arith, behind))

pub grown-none : (p : BucketState) → HasGrown p p
grown-none p = (
  [],
  record {
    id = refl;
    bytes = λ _. sym (append-nil (good_bytes p));
    own = λ _. sym (append-nil (own_bytes p));
    committed = λ _. refl;
    good = omega arith;
    base = refl;
    fresh = refl;
  },
)

-- a fact of each place, one of which changes; those behind it stay
pub all-places : (R : BucketState → BucketState → Type 0) (old now new : List BucketState) (k : ℕ) → ((p : BucketState) → R p p)
    → ((b : ℕ) → b < k → R (file_of old b) (file_of now b)) → ((b : ℕ) → k ≤ b → file_of now b ≡ file_of old b)
    → new ≡ slice_set now k (file_of new k) → R (file_of now k) (file_of new k) → (b : ℕ) → R (file_of old b) (file_of new b)
all-places R old now new k same before ahead set this b = by (compared b k)
  where
    by : (b < k) ⊎ ((b ≡ k) ⊎ (k < b)) → R (file_of old b) (file_of new b)
    by (inl less) = one-more (λ _. R) old now new k before ahead set this b (omega (arith, less))
    by (inr (inl is)) = one-more (λ _. R) old now new k before ahead set this b (omega (arith, is))
    by (inr (inr more)) = subst (R (file_of old b)) (sym (still-ahead old now new k ahead set b (omega (arith, more)))) (same (file_of old b))
