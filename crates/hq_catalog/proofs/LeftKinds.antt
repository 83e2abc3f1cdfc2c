-- The kind of the entry that a plan leaves.
use Rattle.std.proofs.Common.{◌≡◌, ℕ, ◌<◌, Bool, true, false, cond, ltb, List, length, Option, Some, None, option_map, unwrap_or, position, slice_index_or, sym, ◌∙◌, ap, subst, arith}
use Rattle.std.specs.List.{list_any, position_or_len}
use Rattle.std.proofs.lemmas.Bool.Decides.{nat_tests}
use Rattle.std.proofs.lemmas.List.Sums.{position_or_len_is}
use Rattle.std.proofs.lemmas.Option.{slice_get-get_or}
use Rattle.hq_value.specs.declared.entry.EntryKind.{EntryKind}
use Rattle.hq_value.specs.declared.entry.EntryKind.TheVariants as entry
use Rattle.hq_log.specs.declared.place.Place.{Place}
use Rattle.hq_log.specs.declared.place.Place.TheVariants.{Unborn}
use Rattle.hq_log.specs.Places.{is_dirty, passes_at}
use Rattle.hq_log.specs.Legal.{IsFirstDirty}
use Rattle.hq_catalog.specs.State.{CatState}
use Rattle.hq_catalog.specs.History.{history}
use Rattle.hq_catalog.specs.Kept.{IsCatalogue}
use Rattle.hq_catalog.specs.Plans.{IsSweep, IsSweepOf}
use Rattle.hq_catalog.proofs.History.{history-entries}
use Rattle.hq_catalog.proofs.Sweeps.{none_dirty_told}

at : (ps : List Place) (m : ℕ) → m < length ps → passes_at is_dirty ps m ≡ is_dirty (slice_index_or ps m Unborn)
at ps m h = ap (λ (o : Option Place). unwrap_or (option_map is_dirty o) false) (slice_get-get_or ps m Unborn h)

-- the lowest lane with a tail is found
pub lowest : (ps : List Place) (n : ℕ) → n < length ps → ((m : ℕ) → m < n → passes_at is_dirty ps m ≡ false) → passes_at is_dirty ps n ≡ true → Some n ≡ position is_dirty ps
lowest ps n h below here =
    let e : position_or_len is_dirty ps ≡ n = position_or_len_is is_dirty ps n Unborn (omega arith) (λ k lt. sym (at ps k (omega (arith, lt, h))) ∙ below k lt) (λ _. sym (at ps n h) ∙ here) in
    let t : ltb n (length ps) ≡ true = grind (arith, nat_tests) in
    sym (ap (λ i. cond (ltb i (length ps)) (Some i) None) e ∙ ap (λ (b : Bool). cond b (Some n) None) t)

-- there is none
pub no_lowest : (ps : List Place) → ((m : ℕ) → m < length ps → passes_at is_dirty ps m ≡ false) → None ≡ position is_dirty ps
no_lowest ps none =
    let k = length ps in
    let e : position_or_len is_dirty ps ≡ k = position_or_len_is is_dirty ps k Unborn (omega arith) (λ m lt. sym (at ps m lt) ∙ none m lt) (λ lt. absurd (omega (arith, lt))) in
    let f : ltb k k ≡ false = grind (arith, nat_tests) in
    sym (ap (λ i. cond (ltb i k) (Some i) None) e ∙ ap (λ (b : Bool). cond b (Some k) None) f)

-- what is swept by the tables is swept by the history
pub sweep_is : (told : Bool) (c : CatState) (kind : EntryKind) → IsCatalogue told c → IsSweepOf c.tables kind → IsSweep (history told c) kind
sweep_is told c (entry.Sweep t n) ok s =
    subst (λ es. IsFirstDirty es t n) (sym (history-entries told c))
    (λ u lt. ap (list_any is_dirty) (sym (ok.places u)) ∙ s.0 u lt, ap (position is_dirty) (sym (ok.places t)) ∙ s.1)
sweep_is told c entry.Idle ok s = none_dirty_told told c ok s
sweep_is told c _ ok s = absurd s
