-- Tallies that grow one after the other.
use Rattle.std.proofs.Common.{◌≡◌, inl, inr, ℕ, zero, suc, ◌+◌, ◌<◌, ◌≤◌, Bool, List, [], ◌∷◌, length, get_or, slice_set as set, subst, refl, sym, ap, ◌∙◌, arith}
use Rattle.std.proofs.lemmas.Bool.{cases_lt}
use Rattle.std.proofs.lemmas.List.{get_or-set_other, get_or-set_same, length-set}
use Rattle.hq_meaning.specs.Rows.{Row}
use Rattle.hq_ops.specs.declared.gathered.Tally.{Tally}
use Rattle.hq_ops.specs.Gathering.{GrewAt, AllGrew}

-- the tallies in front have grown, and the others are as they were
pub record FrontGrew (index : ℕ) (fresh : Bool) (row : Row) (olds news : List Tally) (i : ℕ) : Type 0 where
  pub count : length news ≡ length olds
  pub columns : (n : ℕ) (d : Tally) → n < i → (get_or news n d).column ≡ (get_or olds n d).column
  pub grew : (n : ℕ) (d : Tally) → n < i → GrewAt (get_or olds n d).column index fresh row (get_or olds n d).groups.items (get_or news n d).groups.items
  pub rest : (n : ℕ) (d : Tally) → i ≤ n → get_or news n d ≡ get_or olds n d

pub same-there : {X : Type 0} (xs : List X) (i : ℕ) (d e : X) → i < length xs → get_or xs i d ≡ get_or xs i e
same-there [] i d e h = absurd (omega (arith, h))
same-there (x ∷ xs) zero d e h = refl
same-there (x ∷ xs) (suc i) d e h = same-there xs i d e (omega (arith, h))

-- the tally at a place is as it was
pub was-there : (index : ℕ) (fresh : Bool) (row : Row) (olds news : List Tally) (i : ℕ) (old : Tally) → FrontGrew index fresh row olds news i → i < length news → old ≡ get_or news i old → (d : Tally) → old ≡ get_or olds i d
was-there index fresh row olds news i old front within is d = is ∙ same-there news i old d within ∙ front.rest i d (omega arith)

pub front-grew : (index : ℕ) (fresh : Bool) (row : Row) (olds news : List Tally) (i : ℕ) (old new : Tally)
    → FrontGrew index fresh row olds news i → i < length news → old ≡ get_or news i old → new.column ≡ old.column → GrewAt old.column index fresh row old.groups.items new.groups.items
    → FrontGrew index fresh row olds (set news i new) (i + 1)
front-grew index fresh row olds news i old new front within is column grew = record {
  count = length-set news i new ∙ front.count;
  columns = λ n d lt. elim (cases_lt n i) [
    | inl less ↦ ap (λ (t : Tally). t.column) (get_or-set_other news i n new d (λ e. let bad : ⊥ = omega (arith, less, e) in bad)) ∙ front.columns n d less
    | inr ge ↦ let same : n ≡ i = omega (arith, ge, lt) in
        ap (λ (t : Tally). t.column) (ap (λ k. get_or (set news i new) k d) same ∙ get_or-set_same news i new d within) ∙ column ∙ ap (λ (t : Tally). t.column) (was-there index fresh row olds news i old front within is d ∙ ap (λ k. get_or olds k d) (sym same))
  ];
  grew = λ n d lt. elim (cases_lt n i) [
    | inl less ↦ subst (λ (t : Tally). GrewAt (get_or olds n d).column index fresh row (get_or olds n d).groups.items t.groups.items) (sym (get_or-set_other news i n new d (λ e. let bad : ⊥ = omega (arith, less, e) in bad))) (front.grew n d less)
    | inr ge ↦ let same : n ≡ i = omega (arith, ge, lt) in
        subst (λ (t : Tally). GrewAt (get_or olds n d).column index fresh row (get_or olds n d).groups.items t.groups.items) (sym (ap (λ k. get_or (set news i new) k d) same ∙ get_or-set_same news i new d within))
        (subst (λ (t : Tally). GrewAt t.column index fresh row t.groups.items new.groups.items) (was-there index fresh row olds news i old front within is d ∙ ap (λ k. get_or olds k d) (sym same)) grew)
  ];
  rest = λ n d le. get_or-set_other news i n new d (λ e. let bad : ⊥ = omega (arith, le, e) in bad) ∙ front.rest n d (omega (arith, le));
}

pub all-grew : (index : ℕ) (fresh : Bool) (row : Row) (olds news : List Tally) (i : ℕ) → FrontGrew index fresh row olds news i → length olds ≤ i → AllGrew index fresh row olds news
all-grew index fresh row olds news i front end = record {
  count = front.count;
  columns = λ n d low. front.columns n d (omega (arith, end, low));
  grew = λ n d low. front.grew n d (omega (arith, end, low));
}
