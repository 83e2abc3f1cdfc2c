-- One part more has given its places.
use borrow.Author.Count.{below_more}
use Rattle.std.proofs.Math.ListN.{get_or-append}
use Rattle.std.proofs.Math.Seq.{get_or-append_seam}
use Rattle.std.proofs.Common.{◌++◌, ◌∷◌, [], length, nat_eq, slice_index, ◌≡◌, ℕ, ◌+◌, ◌<◌, ◌≤◌, List, true, false, arith, sym, ◌∙◌, ap, Bool, refl}
use Rattle.std.proofs.Math.Nat.{eq-or-lt_of_le}
use Rattle.std.proofs.Math.Logic.{⊎_elim}
use Rattle.hq_lane.specs.BucketFiles.{BucketState}
use Rattle.hq_lane.specs.Lanes.{PartState, id_of, file_of, part_at, owns, no_part}

bool_cases : (x : Bool) (P : Type 0) → (x ≡ true → P) → (x ≡ false → P) → P
bool_cases true P t f = t refl
bool_cases false P t f = f refl

pub given_more : (all : List PartState) (part : PartState) (k len : ℕ) (old new : List BucketState) → part ≡ part_at all k → k < len
    → ((m n b : ℕ) → m < len → n < len → b < 16 → owns (part_at all m) b ≡ true → owns (part_at all n) b ≡ true → m ≡ n)
    → ((b : ℕ) → b < 16 → owns part b ≡ true → file_of new b ≡ file_of part.files b)
    → ((b : ℕ) → b < 16 → owns part b ≡ false → file_of new b ≡ file_of old b)
    → ((n b : ℕ) → k + 1 ≤ n → n < len → b < 16 → owns (part_at all n) b ≡ true → file_of old b ≡ file_of (part_at all n).files b)
    → (n b : ℕ) → k ≤ n → n < len → b < 16 → owns (part_at all n) b ≡ true → file_of new b ≡ file_of (part_at all n).files b
given_more all part k len old new e kl once moved others given n b lo hi bb own =
    ⊎_elim
    (λ (same : k ≡ n).
    let e' : part ≡ part_at all n = e ∙ ap (part_at all) same in
    moved b bb (ap (λ (p : PartState). owns p b) e' ∙ own) ∙ ap (λ (p : PartState). file_of p.files b) e')
    (λ (above : k < n).
    bool_cases (owns part b) (file_of new b ≡ file_of (part_at all n).files b)
    (λ mine. let same : k ≡ n = once k n b kl hi bb (ap (λ (p : PartState). owns p b) (sym e) ∙ mine) own in absurd (omega arith))
    (λ other. others b bb other ∙ given n b (omega arith) hi bb own))
    (eq-or-lt_of_le lo)

-- a part for node n whose places are still to be put in
pub record IsEmptyPart (t number : ℕ) (owner : List ℕ) (n : ℕ) (part : PartState) : Type 0 where
  pub table : part.table ≡ t
  pub lane : part.number ≡ number
  pub owned : (b : ℕ) → b < 16 → owns part b ≡ nat_eq (slice_index owner b) n

-- what holds of each part, and of one that is pushed
pub pushed_more : (Q : ℕ → PartState → Type 0) (parts : List PartState) (p : PartState) (k : ℕ) → length parts ≡ k → Q k p
    → ((n : ℕ) → n < k → Q n (part_at parts n)) → (n : ℕ) → n < k + 1 → Q n (part_at (parts ++ p ∷ []) n)
pushed_more Q parts p k e here below =
    below_more (λ n. Q n (part_at (parts ++ p ∷ []) n)) k
    (λ n lt. rw (get_or-append parts (p ∷ []) no_part n (omega arith)) (below n lt))
    (let seam : part_at (parts ++ p ∷ []) k ≡ p = rw (← e) (get_or-append_seam parts p [] no_part) in rw seam here)

-- two parts of one lane give the files of a bucket one id
pub same_ids : (all : List PartState) (part last : PartState) (k m t n : ℕ) → ((j : ℕ) → j < length all → (part_at all j).table ≡ (part_at all 0).table)
    → ((j : ℕ) → j < length all → (part_at all j).number ≡ (part_at all 0).number) → part ≡ part_at all k → k < length all → last ≡ part_at all m → m < length all
    → t ≡ last.table → n ≡ last.number → (b : ℕ) → id_of part.table part.number b ≡ id_of t n b
same_ids all part last k m t n tables numbers e below f above is_t is_n b =
    let table : part.table ≡ t = ap (λ (p : PartState). p.table) e ∙ tables k below ∙ sym (tables m above) ∙ sym (ap (λ (p : PartState). p.table) f) ∙ sym is_t in
    let number : part.number ≡ n = ap (λ (p : PartState). p.number) e ∙ numbers k below ∙ sym (numbers m above) ∙ sym (ap (λ (p : PartState). p.number) f) ∙ sym is_n in
    λ i. id_of (table i) (number i) b
