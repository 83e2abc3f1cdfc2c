-- Lists of which one item changes.
use Rattle.std.proofs.Common.{◌≡◌, ℕ, zero, suc, ◌<◌, All, List, [], ◌∷◌, length, drop, slice_set, slice_index_or, arith}
use Rattle.std.proofs.lemmas.List.Elements.{All-cons}

-- what holds of all items and of the new one
pub All-set : {X : Type 0} (P : X → Type 0) (xs : List X) (i : ℕ) (x : X) → All P xs → P x → All P (slice_set xs i x)
All-set P [] i x all one = all
All-set P (y ∷ ys) zero x all one = All-cons P x ys one (λ k d within. all (suc k) d (omega (arith, within)))
All-set P (y ∷ ys) (suc i) x all one = All-cons P y (slice_set ys i x) (all 0 y (omega arith)) (All-set P ys i x (λ k d within. all (suc k) d (omega (arith, within))) one)

-- what holds of the items behind the first
pub All-behind : {X : Type 0} (P : X → Type 0) (xs : List X) → All P xs → All P (drop 1 xs)
All-behind P [] all = all
All-behind P (x ∷ xs) all = λ k d within. all (suc k) d (omega (arith, within))

-- what holds at each place, where one item changes
pub set-each : {X : Type 0} (d : X) (P : ℕ → X → Type 0) (xs : List X) (i : ℕ) (x : X) → i < length xs
    → ((n : ℕ) → (n ≡ i → ⊥) → P n (slice_index_or xs n d)) → P i x → (n : ℕ) → P n (slice_index_or (slice_set xs i x) n d)
set-each d P [] i x within others this n = absurd (omega (arith, within))
set-each d P (y ∷ ys) zero x within others this zero = this
set-each d P (y ∷ ys) zero x within others this (suc n) = others (suc n) (λ e. omega (arith, e))
set-each d P (y ∷ ys) (suc i) x within others this zero = others 0 (λ e. omega (arith, e))
set-each d P (y ∷ ys) (suc i) x within others this (suc n) = set-each d (λ k. P (suc k)) ys i x (omega (arith, within)) (λ k apart. others (suc k) (λ e. apart (omega (arith, e)))) this n
