-- Seals that changed since, and seals that are merged.
use Rattle.std.proofs.Common.{◌≡◌, ℕ, ◌≤◌, Bool, true, false, List, length, replicate, Option, Some, None, IsSome, slice_set, refl, sym, ◌∙◌, ap, subst, arith, inl, inr}
use Rattle.std.proofs.lemmas.List.{get_or-set_same, get_or-set_other, get_or_past, length-set}
use Rattle.std.proofs.lemmas.Bool.{cases_eq}
use Rattle.hq_store.specs.FileStep.{SealState}
use Rattle.hq_snap.specs.Snaps.{seal_in, change_at, is_since, kept_if, newer, AreSince, AreMerged}
use Rattle.hq_snap.specs.Deltas.{AreAtMost, OthersAreAtMost}
use Rattle.hq_snap.proofs.Elements.{below_or, get_same}

pub kept_none : (b : Bool) → kept_if b None ≡ None
kept_none true = refl
kept_none false = refl

pub newer_none : (seal : Option SealState) → newer seal None ≡ seal
newer_none None = refl
newer_none (Some z) = refl

-- none of the places is above the bound
pub none_above : (b : ℕ) → change_at (replicate 16 0) b ≤ 0
none_above b = subst (λ k. k ≤ 0) (sym (get_same 16 b 0)) (omega arith)

pub set_above : (places : List ℕ) (i place latest new : ℕ) → latest ≤ new → place ≤ new → ((b : ℕ) → change_at places b ≤ latest) → (b : ℕ) → change_at (slice_set places i place) b ≤ new
set_above places i place latest new l p h b = elim (cases_eq b i) [
  | inr other ↦ subst (λ k. k ≤ new) (sym (get_or-set_other places i b place 0 other)) (omega (arith, h b))
  | inl same ↦ elim (below_or i (length places)) [
    | inl within ↦ subst (λ k. k ≤ new) (sym (ap (λ j. change_at (slice_set places i place) j) same ∙ get_or-set_same places i place 0 within)) p
    | inr beyond ↦ subst (λ k. k ≤ new) (sym (get_or_past (slice_set places i place) b 0 (omega (arith, length-set places i place, same)))) (omega arith)
  ]
]

newer_some : (now then : Option SealState) → IsSome now → newer now then ≡ now
newer_some (Some z) then h = refl
newer_some None then h = cc

-- of one file
brought : (since : Bool) (then now : Option SealState) → (since ≡ false → then ≡ now) → (since ≡ true → IsSome now) → newer (kept_if since now) then ≡ now
brought true then now still some = newer_some now then (some refl)
brought false then now still some = still refl

pub up_to_date : (changed : List (List ℕ)) (at : ℕ) (then now some new : List (List (Option SealState)))
    → ((n b : ℕ) → is_since changed at n b ≡ false → seal_in then n b ≡ seal_in now n b)
    → ((n b : ℕ) → is_since changed at n b ≡ true → IsSome (seal_in now n b))
    → AreSince changed at now some → AreMerged some then new → (n b : ℕ) → seal_in new n b ≡ seal_in now n b
up_to_date changed at then now some new still has since merged n b =
    merged n b ∙ ap (λ s. newer s (seal_in then n b)) (since n b) ∙ brought (is_since changed at n b) (seal_in then n b) (seal_in now n b) (still n b) (has n b)

-- a file that was noted is the last one, and of the others none is above the bound of all before
pub set_others : (places : List ℕ) (i place latest : ℕ) → AreAtMost latest places → OthersAreAtMost latest i (slice_set places i place)
set_others places i place latest h b d = subst (λ k. k ≤ latest) (sym (get_or-set_other places i b place 0 d)) (h b)

-- it was the last one before
pub set_last : (places : List ℕ) (i place others : ℕ) → OthersAreAtMost others i places → OthersAreAtMost others i (slice_set places i place)
set_last places i place others h b d = subst (λ k. k ≤ others) (sym (get_or-set_other places i b place 0 d)) (h b d)
