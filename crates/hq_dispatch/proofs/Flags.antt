-- Flags of nodes.
use Rattle.std.proofs.Common.{◌≡◌, inl, inr, ◌==◌, ◌+◌, ◌<◌, ℕ, zero, suc, Bool, true, false, List, [], ◌∷◌, length, filter, replicate, slice_index_or, slice_set, refl, sym, ap, ◌∙◌, arith}
use Rattle.std.specs.List.{range_with_len}
use Rattle.std.proofs.lemmas.Bool.{cases_lt, eqb-true, eqb-false}
use Rattle.std.proofs.lemmas.Bool.Decides.{nat_tests}
use Rattle.std.proofs.lemmas.Grind.{get_or-set_at}
use Rattle.std.proofs.lemmas.List.{get_or-set_same, get_or-set_other}
use Rattle.hq_dispatch.specs.Owners.{has_flag, flagged}
use Rattle.hq_dispatch.proofs.Ranges.{same-kept, one-kept}

-- one place more has its value
pub flag-set : (f : ℕ → Bool) (xs : List Bool) (i : ℕ) (v : Bool) → i < length xs → v ≡ f i → ((k : ℕ) → k < i → has_flag xs k ≡ f k) → (k : ℕ) → k < i + 1 → has_flag (slice_set xs i v) k ≡ f k
flag-set f xs i v within is before k below =
    elim (cases_lt k i) [
      | inl lt ↦ get_or-set_other xs i k v false (λ e. let bad : ⊥ = omega (arith, lt, e) in bad) ∙ before k lt
      | inr ge ↦ let same : k ≡ i = omega (arith, ge, below) in get_or-set_at xs i k v false same within ∙ is ∙ ap f (sym same)
    ]

-- the nodes at which a test holds
pub all-flagged : (flags : List Bool) (f : ℕ → Bool) → ((k : ℕ) → k < 16 → has_flag flags k ≡ f k) → flagged flags ≡ filter f (range_with_len 0 16)
all-flagged flags f each = same-kept (has_flag flags) f 0 16 (λ n low high. each n (omega (arith, high)))

pub none-set : (m n : ℕ) → slice_index_or (replicate m false) n false ≡ false
none-set zero n = refl
none-set (suc m) zero = refl
none-set (suc m) (suc n) = none-set m n

same-test : (n : ℕ) → (n == n) ≡ true
same-test n = grind (arith, nat_tests)

-- one node alone
pub one-flagged : (node : ℕ) → node < 16 → flagged (slice_set (replicate 16 false) node true) ≡ node ∷ []
one-flagged node within =
    same-kept (has_flag (slice_set (replicate 16 false) node true)) (λ m. m == node) 0 16 (λ n low high. at n (n == node) refl) ∙ one-kept node 0 16 (omega arith) (omega (arith, within))
  where
    at : (n : ℕ) (b : Bool) → (n == node) ≡ b → has_flag (slice_set (replicate 16 false) node true) n ≡ b
    at n true e = ap (λ (m : ℕ). has_flag (slice_set (replicate 16 false) node true) m) (eqb-true n node e) ∙ get_or-set_same (replicate 16 false) node true false within
    at n false e = get_or-set_other (replicate 16 false) node n true false (eqb-false n node e) ∙ none-set 16 n
