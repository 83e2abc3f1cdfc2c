-- Tasks in the order of the benches and of the parts.
use Rattle.std.proofs.Common.{◌≡◌, ◌∙◌, ◌⊎◌, inl, inr, ℕ, ◌+◌, ◌<◌, ◌≤◌, Bool, List, [], ◌∷◌, ◌++◌, length, map, slice_index_or, Result, Ok, Err, refl, sym, ap, subst, arith, append-nil}
use Rattle.std.proofs.lemmas.List.{get_or-map, length-map, get_or-append_right}
use Rattle.std.proofs.Math.ListN.{get_or-append}
use Rattle.std.proofs.lemmas.Bool.{cases_lt}
use Rattle.hq_value.specs.declared.kind.Kind.{Kind}
use Rattle.hq_value.specs.Bucket.{Buckets}
use Rattle.hq_lane.specs.Lanes.{PartState, no_part, part_at, file_of, HaveSameHeads}
use Rattle.hq_txn.proofs.Growing.{begun-none}
use Rattle.hq_txn.specs.Parts.{HasSameHead, BeginsPart, UnlessHost, UnlessStore, IsNoFault}
use Rattle.hq_txn.specs.declared.task.Trouble.{Trouble}
use Rattle.hq_txn.specs.declared.task.Trouble.TheVariants as trouble

-- the part of a task in its place
pub placed : {X : Type 0} (part : X → PartState) (xs : List X) (rest all : List PartState) (n : ℕ) (d : X) → map part xs ++ rest ≡ all → n < length xs → part_at all n ≡ part (slice_index_or xs n d)
placed part xs rest all n d is within =
    let long : n < length (map part xs) = omega (arith, within, length-map xs part) in
    ap (λ (ps : List PartState). part_at ps n) (sym is) ∙ get_or-append (map part xs) rest no_part n long ∙ get_or-map part xs n d no_part within

-- what holds of a task's part
pub part-of : {X : Type 0} (part : X → PartState) (P : PartState → Type 0) (xs : List X) (rest before : List PartState) → map part xs ++ rest ≡ before
    → (n : ℕ) → n < length xs → ((d : X) → P (part (slice_index_or xs n d))) → P (part_at before n)
part-of part P [] rest before is n within holds = absurd (omega (arith, within))
part-of part P (x ∷ xs) rest before is n within holds = subst P (sym (placed part (x ∷ xs) rest before n x is within)) (holds x)

-- the parts behind those of the tasks stay
pub part-behind : {X : Type 0} (part : X → PartState) (xs ys : List X) (rest before after : List PartState) → length ys ≡ length xs → map part xs ++ rest ≡ before → after ≡ map part ys ++ rest
    → (n : ℕ) → length xs ≤ n → part_at after n ≡ part_at before n
part-behind part xs ys rest before after many is has n behind =
    let one : length (map part ys) ≡ length xs = length-map ys part ∙ many in
    ap (λ (ps : List PartState). part_at ps n) has ∙ get_or-append_right (map part ys) rest (length xs) n no_part one behind
    ∙ sym (ap (λ (ps : List PartState). part_at ps n) (sym is) ∙ get_or-append_right (map part xs) rest (length xs) n no_part (length-map xs part) behind)

-- what holds of a task's part before and after
pub parts-of : {X : Type 0} (part : X → PartState) (R : PartState → PartState → Type 0) (xs ys : List X) (rest before after : List PartState) → length ys ≡ length xs → map part xs ++ rest ≡ before → after ≡ map part ys ++ rest
    → (n : ℕ) → n < length xs → ((d : X) → R (part (slice_index_or xs n d)) (part (slice_index_or ys n d))) → R (part_at before n) (part_at after n)
parts-of part R [] ys rest before after many is has n within holds = absurd (omega (arith, within))
parts-of part R (x ∷ xs) ys rest before after many is has n within holds =
    let old : part_at before n ≡ part (slice_index_or (x ∷ xs) n x) = placed part (x ∷ xs) rest before n x is within in
    let new : part_at after n ≡ part (slice_index_or ys n x) = placed part ys rest after n x (sym has) (omega (arith, within, many)) in
    subst (λ p. R p (part_at after n)) (sym old) (subst (R (part (slice_index_or (x ∷ xs) n x))) (sym new) (holds x))

-- what holds of a task's part and of its bench before and after
pub tasks-of : {X B : Type 0} (bench : X → B) (part : X → PartState) (Q : PartState → B → B → Type 0) (xs ys : List X) (rest before : List PartState) (old new : List B) → length ys ≡ length xs → map part xs ++ rest ≡ before
    → map bench xs ≡ old → new ≡ map bench ys ++ [] → (n : ℕ) → n < length xs → ((d : X) → Q (part (slice_index_or xs n d)) (bench (slice_index_or xs n d)) (bench (slice_index_or ys n d)))
    → (d : B) → Q (part_at before n) (slice_index_or old n d) (slice_index_or new n d)
tasks-of bench part Q [] ys rest before old new many is was has n within holds d = absurd (omega (arith, within))
tasks-of {X} {B} bench part Q (x ∷ xs) ys rest before old new many is was has n within holds d =
    let first : part_at before n ≡ part (slice_index_or (x ∷ xs) n x) = placed part (x ∷ xs) rest before n x is within in
    let left : slice_index_or old n d ≡ bench (slice_index_or (x ∷ xs) n x) = ap (λ (l : List B). slice_index_or l n d) (sym was) ∙ get_or-map bench (x ∷ xs) n x d within in
    let right : slice_index_or new n d ≡ bench (slice_index_or ys n x) = ap (λ (l : List B). slice_index_or l n d) (has ∙ append-nil (map bench ys)) ∙ get_or-map bench ys n x d (omega (arith, within, many)) in
    subst (Q (part_at before n) (slice_index_or old n d)) (sym right)
    (subst (λ b. Q (part_at before n) b (bench (slice_index_or ys n x))) (sym left) (subst (λ p. Q p (bench (slice_index_or (x ∷ xs) n x)) (bench (slice_index_or ys n x))) (sym first) (holds x)))

-- it went well or wanted memory: then its host did not fail
pub no-fault : (outcome : Result Unit Trouble) (P : Type 0) → IsNoFault outcome → UnlessHost outcome P → P
no-fault (Ok done) P fine holds = holds
no-fault (Err trouble.Host) P fine holds = absurd fine
no-fault (Err trouble.Store) P fine holds = holds
no-fault (Err trouble.NoMemory) P fine holds = holds

-- and its store did not
pub no-store-fault : (outcome : Result Unit Trouble) (P : Type 0) → IsNoFault outcome → UnlessStore outcome P → P
no-store-fault (Ok done) P fine holds = holds
no-store-fault (Err trouble.Host) P fine holds = absurd fine
no-store-fault (Err trouble.Store) P fine holds = absurd fine
no-store-fault (Err trouble.NoMemory) P fine holds = holds

-- a fact but where the store failed, of a trouble that is none of the host
pub unless-store : (why : Trouble) (P : Type 0) → (why ≡ trouble.Host → ⊥) → (why ≡ trouble.NoMemory → P) → UnlessStore (Err why) P
unless-store trouble.Host P other holds = absurd (other refl)
unless-store trouble.Store P other holds = tt
unless-store trouble.NoMemory P other holds = holds refl

-- what holds of the parts of the tasks before and after, and of each part and itself, holds of all
pub all-parts : {X : Type 0} (part : X → PartState) (R : PartState → PartState → Type 0) (xs ys : List X) (rest before after : List PartState) → length ys ≡ length xs → map part xs ++ rest ≡ before → after ≡ map part ys ++ rest
    → ((p : PartState) → R p p) → ((n : ℕ) → n < length xs → (d : X) → R (part (slice_index_or xs n d)) (part (slice_index_or ys n d))) → (n : ℕ) → R (part_at before n) (part_at after n)
all-parts part R xs ys rest before after many is has same holds n = by (cases_lt n (length xs))
  where
    by : (n < length xs) ⊎ (length xs ≤ n) → R (part_at before n) (part_at after n)
    by (inl within) = parts-of part R xs ys rest before after many is has n within (holds n within)
    by (inr behind) = subst (R (part_at before n)) (sym (part-behind part xs ys rest before after many is has n behind)) (same (part_at before n))

pub same-head : (p : PartState) → HasSameHead p p
same-head p = record { table = refl; number = refl; here = refl }

pub same-heads : (before after : List PartState) → length after ≡ length before → ((n : ℕ) → HasSameHead (part_at before n) (part_at after n)) → HaveSameHeads before after
same-heads before after long each = record {
  sixteen = long;
  table = λ n. (each n).table;
  number = λ n. (each n).number;
  here = λ n. (each n).here;
}

-- a part that stays has none of the rows
pub begins-none : (told : Bool) (kinds : List Kind) (shares : Buckets) (p : PartState) → BeginsPart told kinds shares p p
begins-none told kinds shares p = λ b within owned. begun-none told kinds (shares b) (file_of p.files b) (file_of p.files b) refl

-- tasks before and after they ran, and the benches and parts that they were made of and gave back
pub record Moved {X B : Type 0} (bench : X → B) (part : X → PartState) (xs ys : List X) (before after : List PartState) (old new : List B) : Type 0 where
  pub rest : List PartState
  pub many : length ys ≡ length xs
  pub parts_are : map part xs ++ rest ≡ before
  pub parts_now : after ≡ map part ys ++ rest
  pub benches_are : map bench xs ≡ old
  pub benches_now : new ≡ map bench ys ++ []

module _ {X B : Type 0} (bench : X → B) (part : X → PartState) (xs ys : List X) (before after : List PartState) (old new : List B) (moved : Moved bench part xs ys before after old new) where
  pub as-many : length old ≡ length xs
  as-many = ap length (sym moved.benches_are) ∙ length-map xs bench

  pub bench-moved : (Q : PartState → B → B → Type 0) (n : ℕ) → n < length xs → ((d : X) → Q (part (slice_index_or xs n d)) (bench (slice_index_or xs n d)) (bench (slice_index_or ys n d)))
      → (d : B) → Q (part_at before n) (slice_index_or old n d) (slice_index_or new n d)
  bench-moved Q n within holds d = tasks-of bench part Q xs ys moved.rest before old new moved.many moved.parts_are moved.benches_are moved.benches_now n within holds d

  pub part-is : (P : PartState → Type 0) (n : ℕ) → n < length xs → ((d : X) → P (part (slice_index_or xs n d))) → P (part_at before n)
  part-is P n within holds = part-of part P xs moved.rest before moved.parts_are n within holds

  pub parts-moved : (R : PartState → PartState → Type 0) (n : ℕ) → n < length xs → ((d : X) → R (part (slice_index_or xs n d)) (part (slice_index_or ys n d))) → R (part_at before n) (part_at after n)
  parts-moved R n within holds = parts-of part R xs ys moved.rest before after moved.many moved.parts_are moved.parts_now n within holds

  pub all-moved : (R : PartState → PartState → Type 0) → ((p : PartState) → R p p) → ((n : ℕ) → n < length xs → (d : X) → R (part (slice_index_or xs n d)) (part (slice_index_or ys n d))) → (n : ℕ) → R (part_at before n) (part_at after n)
  all-moved R same holds n = all-parts part R xs ys moved.rest before after moved.many moved.parts_are moved.parts_now same holds n

-- up to a task whose store failed, and before which none met a fault, no host failed
pub answered-up-to : (outcome : ℕ → Result Unit Trouble) (P : ℕ → Type 0) (n : ℕ) → outcome n ≡ Err trouble.Store → ((m : ℕ) → m < n → IsNoFault (outcome m)) → (k : ℕ) → k < n + 1 → UnlessHost (outcome k) (P k) → P k
answered-up-to outcome P n failed before k within holds = by (cases_lt k n)
  where
    by : (k < n) ⊎ (n ≤ k) → P k
    by (inl less) = no-fault (outcome k) (P k) (before k less) holds
    by (inr more) =
        let same : k ≡ n = omega (arith, within, more) in
        subst (λ (o : Result Unit Trouble). UnlessHost o (P k)) (ap outcome same ∙ failed) holds
