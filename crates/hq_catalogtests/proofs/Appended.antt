-- A lane to a file of which rows were appended, by way of the one part that has all files.
use Rattle.std.proofs.Common.{◌≡◌, ◌≢◌, ℕ, zero, suc, ◌<◌, eqb, Bool, true, false, List, [], ◌∷◌, length, replicate, slice_set, slice_index, slice_index_or, nat_eq, Result, Ok, Err, OnOk, OnErr, refl, sym, ◌∙◌, ap, subst, arith, eq-eqb}
use Rattle.std.proofs.lemmas.Bool.{eqb-true}
use Rattle.std.proofs.lemmas.List.{get_or-set_same, get_or-set_other, get_or_read, length-set}
use Rattle.hq_value.specs.declared.value.Value.{Value}
use Rattle.hq_value.specs.declared.kind.Kind.{Kind}
use Rattle.hq_lane.specs.Lanes.{LaneState, PartState, id_of, file_of, part_at, no_part, file_in, owns, AreWhole, ArePartsOf, HaveSameHeads}
use Rattle.hq_lane.specs.BucketFiles.{BucketState, no_file, IsGrown}
use Rattle.hq_lane.specs.Packing.{GrewByFirst}
use Rattle.hq_catalogtests.proofs.Places.{no_truth}
use Rattle.hq_catalogtests.specs.Turns.{IsSameLane, GetsNoSeal}

-- node 0 owns all files
abbrev pub zeros : List ℕ
zeros = replicate 16 0

replicated : (n b : ℕ) → slice_index (replicate n 0) b ≡ 0
replicated zero b = refl
replicated (suc n) zero = refl
replicated (suc n) (suc b) = replicated n b

zeros_at : (b : ℕ) → slice_index zeros b ≡ 0
zeros_at b = replicated 16 b

pub zeros_within : (b : ℕ) → b < 16 → slice_index zeros b < 16
zeros_within b within = omega (arith, zeros_at b)

pub first_part : (parts : List PartState) (first : PartState) → length parts ≡ 16 → first ≡ slice_index_or parts 0 first → first ≡ part_at parts 0
first_part parts first sixteen is = get_or_read parts 0 first (omega (arith, sixteen)) is no_part

-- the part changes in its files alone
abbrev pub Appends : (first new : PartState) → ℕ → Type 0
Appends first new bucket = new ≡ record first { files = slice_set first.files bucket (file_of new.files bucket) }

same_at : {X : Type 0} (f : PartState → X) (parts : List PartState) (new : PartState) → f new ≡ f (part_at parts 0) → (n : ℕ) → f (part_at (slice_set parts 0 new) n) ≡ f (part_at parts n)
same_at f [] new e n = refl
same_at f (x ∷ xs) new e zero = e
same_at f (x ∷ xs) new e (suc n) = refl

pub same_heads : (parts : List PartState) (first new : PartState) (bucket : ℕ) → first ≡ part_at parts 0 → Appends first new bucket → HaveSameHeads parts (slice_set parts 0 new)
same_heads parts first new bucket is grows = record {
  sixteen = length-set parts 0 new;
  table = same_at (λ (p : PartState). p.table) parts new (ap (λ (p : PartState). p.table) grows ∙ ap (λ (p : PartState). p.table) is);
  number = same_at (λ (p : PartState). p.number) parts new (ap (λ (p : PartState). p.number) grows ∙ ap (λ (p : PartState). p.number) is);
  here = same_at (λ (p : PartState). p.here) parts new (ap (λ (p : PartState). p.here) grows ∙ ap (λ (p : PartState). p.here) is);
}

-- the part has every file, as it was
pub here : (lane : LaneState) (parts : List PartState) (first : PartState) (b : ℕ) → ArePartsOf lane zeros parts → first ≡ part_at parts 0 → b < 16 → owns first b ≡ true
here lane parts first b are is within = ap (λ (p : PartState). owns p b) is ∙ are.owned 0 b (omega arith) within ∙ ap (λ n. nat_eq n 0) (zeros_at b)

pub before : (lane : LaneState) (parts : List PartState) (first : PartState) → ArePartsOf lane zeros parts → first ≡ part_at parts 0 → (b : ℕ) → b < 16 → file_of first.files b ≡ file_of lane.files b
before lane parts first are is b within =
    ap (λ (p : PartState). file_of p.files b) is ∙ ap (λ n. file_in parts n b) (sym (zeros_at b)) ∙ are.files b within

after : (whole : LaneState) (parts : List PartState) (new : PartState) (b : ℕ) → length parts ≡ 16 → file_of whole.files b ≡ file_in (slice_set parts 0 new) (slice_index zeros b) b → file_of whole.files b ≡ file_of new.files b
after whole parts new b sixteen is =
    is ∙ ap (λ n. file_in (slice_set parts 0 new) n b) (zeros_at b) ∙ ap (λ (p : PartState). file_of p.files b) (get_or-set_same parts 0 new no_part (omega (arith, sixteen)))

-- what stays of the file that grew stays of each
same_of : {X : Type 0} (f : BucketState → X) (first new : PartState) (bucket b : ℕ) → Appends first new bucket → f (file_of new.files bucket) ≡ f (file_of first.files bucket) → (own : Bool) → eqb b bucket ≡ own → f (file_of new.files b) ≡ f (file_of first.files b)
same_of f first new bucket b grows stays true e =
    let is : b ≡ bucket = eqb-true b bucket e in
    subst (λ i. f (file_of new.files i) ≡ f (file_of first.files i)) (sym is) stays
same_of f first new bucket b grows stays false e =
    let d : b ≢ bucket = λ is. no_truth (eqb b bucket) (eq-eqb b bucket is) e in
    ap f (ap (λ (p : PartState). file_of p.files b) grows ∙ get_or-set_other first.files bucket b (file_of new.files bucket) (no_file (id_of 0 0 0)) d)

-- a file that grew keeps its committed length, and gets no seal, whatever the append said
pub grown_keeps : {E : Type 0} (told : Bool) (kinds : List Kind) (rows : List (List Value)) (added : List ℕ) (old new : BucketState) (result : Result Unit E)
    → OnOk result (IsGrown told old added new) → OnErr result ((count : ℕ) × GrewByFirst told kinds count rows old new) → (new.base ≡ old.base) × (new.fresh ≡ old.fresh)
grown_keeps told kinds rows added old new (Ok u) grown first = (grown.base, grown.fresh)
grown_keeps told kinds rows added old new (Err e) grown first = (first.1.grown.base, first.1.grown.fresh)

-- what is said of an Ok, at one
pub at_ok : {E : Type 0} (b : Bool) (u : Unit) (result : Result Unit E) → result ≡ Ok u → OnOk result (b ≡ false) → b ≡ false
at_ok b u result is said = subst (λ r. OnOk r (b ≡ false)) is said

module _ (lane whole : LaneState) (parts : List PartState) (first new : PartState) (bucket : ℕ) (are : ArePartsOf lane zeros parts) (is : first ≡ part_at parts 0)
    (grows : Appends first new bucket) (within : bucket < 16) (files : (b : ℕ) → b < 16 → file_of whole.files b ≡ file_in (slice_set parts 0 new) (slice_index zeros b) b) where
  -- what stays of the file that grew stays of each
  kept : {X : Type 0} (f : BucketState → X) → f (file_of new.files bucket) ≡ f (file_of first.files bucket) → (b : ℕ) → b < 16 → f (file_of whole.files b) ≡ f (file_of lane.files b)
  kept f stays b lt =
      ap f (after whole parts new b are.sixteen (files b lt)) ∙ same_of f first new bucket b grows stays (eqb b bucket) refl ∙ ap f (before lane parts first are is b lt)

  -- the lane behind it
  pub same_lane : (whole.table ≡ lane.table) × (whole.number ≡ lane.number) → (file_of new.files bucket).base ≡ (file_of first.files bucket).base → IsSameLane lane whole
  same_lane heads base = record { table = heads.0; number = heads.1; base = kept (λ (p : BucketState). p.base) base }

  pub no_new_seal : (file_of new.files bucket).fresh ≡ (file_of first.files bucket).fresh → GetsNoSeal lane whole
  no_new_seal fresh = kept (λ (p : BucketState). p.fresh) fresh

  pub whole_still : AreWhole lane.files → (file_of new.files bucket).torn ≡ false → AreWhole whole.files
  whole_still all torn = λ b lt. (
      let old : (file_of first.files bucket).torn ≡ false = ap (λ (p : BucketState). p.torn) (before lane parts first are is bucket within) ∙ all bucket within in
      kept (λ (p : BucketState). p.torn) (torn ∙ sym old) b lt ∙ all b lt
      )
