-- The nodes that are up, one after the other.
use Rattle.std.proofs.Common.{◌≡◌, ◌⊎◌, inl, inr, ℕ, zero, suc, ◌+◌, ◌<◌, ◌≤◌, Bool, true, false, List, [], ◌∷◌, length, drop, slice_index_or, slice_set, sym, ap, ◌∙◌, arith}
use Rattle.std.specs.List.{list_any}
use Rattle.std.proofs.lemmas.Bool.{cases_lt}
use Rattle.std.proofs.lemmas.Grind.{get_or-set_at}
use Rattle.std.proofs.lemmas.List.{drop_all, get_or-set_other}
use Rattle.hq_detect.specs.Assign.{ups_from, nodes_up}

some_of : (i : ℕ) (marks : List Bool) → list_any (λ up. up) marks ≡ true → 0 < length (ups_from i marks)
some_of i [] h = cc
some_of i (true ∷ marks) h = omega arith
some_of i (false ∷ marks) h = some_of (i + 1) marks h

-- where all nodes are counted and some is up, the count is not 0
pub some_counted : (marks : List Bool) (node count : ℕ) → length marks ≤ node → list_any (λ up. up) marks ≡ true → count + length (ups_from node (drop node marks)) ≡ length (nodes_up marks) → 0 < count
some_counted marks node count end some counted =
    let rest : length (ups_from node (drop node marks)) ≡ 0 = ap (λ (l : List Bool). length (ups_from node l)) (drop_all node marks end) in
    let more = some_of 0 marks some in
    omega (arith, rest, more, counted)

-- one place more has its value
pub set_next : (f : ℕ → ℕ) (xs : List ℕ) (i v : ℕ) → i < length xs → v ≡ f i → ((k : ℕ) → k < i → slice_index_or xs k 0 ≡ f k) → (k : ℕ) → k < i + 1 → slice_index_or (slice_set xs i v) k 0 ≡ f k
set_next f xs i v within is before k below =
    elim (cases_lt k i) [
      | inl lt ↦ get_or-set_other xs i k v 0 (λ e. let bad : ⊥ = omega (arith, lt, e) in bad) ∙ before k lt
      | inr ge ↦ let same : k ≡ i = omega (arith, ge, below) in get_or-set_at xs i k v 0 same within ∙ is ∙ ap f (sym same)
    ]
