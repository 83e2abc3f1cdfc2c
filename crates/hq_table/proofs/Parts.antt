-- The one part that has all places, and the lane before and after rows were written to it.
use Rattle.std.proofs.Common.{◌≡◌, ◌<◌, ℕ, zero, suc, false, List, [], ◌∷◌, ◌++◌, length, replicate, take, slice_set, slice_index, slice_index_or, Result, Ok, Err, OnOk, IsOk, refl, ap, sym, ◌∙◌, arith}
use Rattle.std.proofs.lemmas.List.{get_or-set_same, get_or_read, length-set}
use Rattle.hq_value.specs.declared.value.Value.{Value}
use Rattle.hq_value.specs.declared.kind.Kind.{Kind}
use Rattle.hq_block.specs.Block.{pack}
use Rattle.hq_lane.specs.Lanes.{LaneState, PartState, file_of, part_at, no_part, file_in, ArePartsOf, HaveSameHeads}
use Rattle.hq_lane.specs.BucketFiles.{BucketState, good_bytes, file_bytes}
use Rattle.hq_table.specs.Home.{IsHome, IsWritten, IsAdded, HasSameHead}

-- node 0 owns all places
abbrev pub zeros : List ℕ
zeros = replicate 16 0

pub zeros-at : (b : ℕ) → slice_index zeros b ≡ 0
zeros-at b = replicated 16 b
  where
    replicated : (n b : ℕ) → slice_index (replicate n 0) b ≡ 0
    replicated zero b = refl
    replicated (suc n) zero = refl
    replicated (suc n) (suc b) = replicated n b

pub zeros-within : (b : ℕ) → b < 16 → slice_index zeros b < 16
zeros-within b within = omega (arith, zeros-at b)

pub first-part : (parts : List PartState) (first : PartState) → length parts ≡ 16 → first ≡ slice_index_or parts 0 first → first ≡ part_at parts 0
first-part parts first sixteen is = get_or_read parts 0 first (omega (arith, sixteen)) is no_part

same-at : {X : Type 0} (f : PartState → X) (parts : List PartState) (new : PartState) → f new ≡ f (part_at parts 0) → (n : ℕ) → f (part_at (slice_set parts 0 new) n) ≡ f (part_at parts n)
same-at f [] new e n = refl
same-at f (x ∷ xs) new e zero = e
same-at f (x ∷ xs) new e (suc n) = refl

pub same-heads : (parts : List PartState) (first new : PartState) → first ≡ part_at parts 0 → HasSameHead first new → HaveSameHeads parts (slice_set parts 0 new)
same-heads parts first new is h = record {
  sixteen = length-set parts 0 new;
  table = same-at (λ (p : PartState). p.table) parts new (h.table ∙ ap (λ (p : PartState). p.table) is);
  number = same-at (λ (p : PartState). p.number) parts new (h.number ∙ ap (λ (p : PartState). p.number) is);
  here = same-at (λ (p : PartState). p.here) parts new (h.here ∙ ap (λ (p : PartState). p.here) is);
}

-- the part's places before
pub place-before : (lane : LaneState) (parts : List PartState) (first : PartState) → ArePartsOf lane zeros parts → first ≡ part_at parts 0 → (b : ℕ) → b < 16 → file_of first.files b ≡ file_of lane.files b
place-before lane parts first are is b within =
    ap (λ (p : PartState). file_of p.files b) is ∙ ap (λ n. file_in parts n b) (sym (zeros-at b)) ∙ are.files b within

-- and after
pub place-after : (whole : LaneState) (parts : List PartState) (new : PartState) (b : ℕ) → length parts ≡ 16 → file_of whole.files b ≡ file_in (slice_set parts 0 new) (slice_index zeros b) b → file_of whole.files b ≡ file_of new.files b
place-after whole parts new b sixteen is =
    is ∙ ap (λ n. file_in (slice_set parts 0 new) n b) (zeros-at b) ∙ ap (λ (p : PartState). file_of p.files b) (get_or-set_same parts 0 new no_part (omega (arith, sixteen)))

pub good-is : (bytes : List ℕ) (p : BucketState) → IsHome bytes p → good_bytes p ≡ bytes
good-is bytes p h = ap (λ n. take n (file_bytes p.file)) h.committed ∙ h.bytes_are

-- what was written and then committed was added
pub added-told : {E F : Type 0} (kinds : List Kind) (rows : ℕ → List (List Value)) (files files' : ℕ → List ℕ) (old new : ℕ → BucketState) (good : ℕ → List ℕ) (result : Result Unit E) (written : Result Unit F)
    → OnOk result (IsOk written) → OnOk result ((b : ℕ) → b < 16 → files' b ≡ good b) → OnOk written ((b : ℕ) → b < 16 → IsWritten kinds (rows b) (old b) (new b))
    → ((b : ℕ) → b < 16 → good b ≡ good_bytes (new b)) → ((b : ℕ) → b < 16 → good_bytes (old b) ≡ files b) → OnOk result ((b : ℕ) → b < 16 → IsAdded kinds (rows b) (files b) (files' b))
added-told kinds rows files files' old new good (Err e) written ok under wrote is home = tt
added-told kinds rows files files' old new good (Ok u) (Err e) ok under wrote is home = absurd (cc)
added-told kinds rows files files' old new good (Ok u) (Ok v) ok under wrote is home = λ b within.
    let w = wrote b within in
    record { bytes = under b within ∙ is b within ∙ w.grown.bytes refl ∙ ap (λ bs. bs ++ pack kinds (rows b)) (home b within); file = w.file }

-- each place is whole where all was written
pub whole-told : {F : Type 0} (kinds : List Kind) (rows : ℕ → List (List Value)) (old new places : ℕ → BucketState) (written : Result Unit F)
    → OnOk written ((b : ℕ) → b < 16 → IsWritten kinds (rows b) (old b) (new b)) → ((b : ℕ) → b < 16 → places b ≡ new b) → OnOk written ((b : ℕ) → b < 16 → (places b).torn ≡ false)
whole-told kinds rows old new places (Err e) wrote is = tt
whole-told kinds rows old new places (Ok u) wrote is = λ b within. ap (λ (p : BucketState). p.torn) (is b within) ∙ (wrote b within).whole
