-- What is under a seal, and a lane that comes home.
use Rattle.std.proofs.Common.{◌≡◌, ◌≢◌, ◌⊎◌, ◌+◌, ◌<◌, ◌≤◌, ℕ, true, false, List, [], Option, Some, None, length, map, slice_set, IsTrue, IsSomeAnd, refl, ap, sym, subst, ◌∙◌, inl, inr, arith}
use Rattle.std.proofs.lemmas.List.{get_or-set_same, get_or-set_other, map-set, length-map}
use Rattle.hq_store.specs.FileStep.{SealState}
use Rattle.hq_lane.specs.BucketFiles.{BucketState, file_bytes, good_bytes, IsSealOf}
use Rattle.hq_table.specs.Kept.{bytes_in}
use Rattle.hq_table.specs.Home.{IsReady, files_of, seal_bytes}
use Rattle.hq_table.proofs.Places.{compared}
use Rattle.hq_store.specs.Pages.{Shared}

-- a fresh seal has all good bytes
pub ready-bytes : (p : BucketState) (z : SealState) → IsReady p → ◌≡◌ {A = Option SealState} (Some z) p.fresh → p.base ≤ p.good → (p.torn ≡ false → IsTrue true → file_bytes p.file ≡ good_bytes p) → z.bytes ≡ good_bytes p
ready-bytes p z ready is order just = by (compared p.base p.good)
  where
    by : (p.base < p.good) ⊎ ((p.base ≡ p.good) ⊎ (p.good < p.base)) → z.bytes ≡ good_bytes p
    by (inl less) =
        let sealed : IsSealOf true true p z = subst (λ f. IsSomeAnd f (IsSealOf true true p)) (sym is) (ready.sealed.grown less) in
        sealed.bytes refl refl ∙ just ready.sealed.whole refl
    by (inr (inl same)) = absurd (let none : ◌≡◌ {A = Option SealState} (Some z) None = is ∙ ready.still same in cc)
    by (inr (inr more)) = absurd (omega (arith, more, order))

-- the bytes under a seal that was put in
pub sealed-bytes : (seals : List (Option Shared)) (b : ℕ) (seal : Shared) → b < length seals → bytes_in (files_of (slice_set seals b (Some seal))) b ≡ seal.bytes
sealed-bytes seals b seal within =
    ap (λ files. bytes_in files b) (map-set seal_bytes seals b (Some seal)) ∙ get_or-set_same (map seal_bytes seals) b seal.bytes [] (omega (arith, within, length-map seals seal_bytes))

other-bytes : (seals new : List (Option Shared)) (k b : ℕ) (seal : Option Shared) → new ≡ slice_set seals k seal → b ≢ k → bytes_in (files_of new) b ≡ bytes_in (files_of seals) b
other-bytes seals new k b seal set n =
    ap (λ ss. bytes_in (files_of ss) b) set ∙ ap (λ files. bytes_in files b) (map-set seal_bytes seals k seal) ∙ get_or-set_other (map seal_bytes seals) k b (seal_bytes seal) [] n

-- the bytes under the seals, one more of which was put in
pub more-under : (good : ℕ → List ℕ) (seals new : List (Option Shared)) (k : ℕ) (seal : Option Shared) → new ≡ slice_set seals k seal
    → ((b : ℕ) → b < k → bytes_in (files_of seals) b ≡ good b) → bytes_in (files_of new) k ≡ good k → (b : ℕ) → b < k + 1 → bytes_in (files_of new) b ≡ good b
more-under good seals new k seal set before this b within = by (compared b k)
  where
    by : (b < k) ⊎ ((b ≡ k) ⊎ (k < b)) → bytes_in (files_of new) b ≡ good b
    by (inl less) = other-bytes seals new k b seal set (λ e. absurd (omega (arith, less, e))) ∙ before b less
    by (inr (inl same)) = subst (λ n. bytes_in (files_of new) n ≡ good n) (sym same) this
    by (inr (inr more)) = absurd (omega (arith, more, within))

pub still-under : (seals new : List (Option Shared)) (k : ℕ) (seal : Option Shared) → new ≡ slice_set seals k seal → (b : ℕ) → k + 1 ≤ b → bytes_in (files_of new) b ≡ bytes_in (files_of seals) b
still-under seals new k seal set b behind = other-bytes seals new k b seal set (λ e. absurd (omega (arith, behind, e)))
