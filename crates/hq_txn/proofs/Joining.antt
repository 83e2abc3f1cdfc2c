-- A lane cut into the parts of the nodes, which are written and put together again.
use Rattle.std.proofs.Common.{◌≡◌, ◌∙◌, ℕ, ◌<◌, Bool, true, false, List, slice_index, slice_index_or, refl, sym, ap, subst, eq-eqb}
use Rattle.std.proofs.lemmas.Bool.{eqb-true}
use Rattle.hq_value.specs.declared.kind.Kind.{Kind}
use Rattle.hq_value.specs.Bucket.{Buckets}
use Rattle.hq_lane.specs.BucketFiles.{BucketState}
use Rattle.hq_lane.specs.Lanes.{LaneState, PartState, file_of, part_at, file_in, owns, ArePartsOf, AreWhole, HaveSameHeads}
use Rattle.hq_detect.specs.Assign.{owner_of}
use Rattle.hq_txn.specs.InUse.{IsInUse}
use Rattle.hq_txn.specs.Parts.{IsUsed, IsWholePart, WritesPart, BeginsPart}
use Rattle.hq_txn.specs.Writes.{IsWritten, IsBegun}

module _ (lane : LaneState) (owner : List ℕ) (parts : List PartState) (are : ArePartsOf lane owner parts) where
  owner-is : (n b : ℕ) → n < 16 → b < 16 → owns (part_at parts n) b ≡ true → slice_index owner b ≡ n
  owner-is n b node bucket owned = eqb-true (slice_index owner b) n (sym (are.owned n b node bucket) ∙ owned)

  is-owned : (b : ℕ) → slice_index owner b < 16 → b < 16 → owns (part_at parts (slice_index owner b)) b ≡ true
  is-owned b node bucket = are.owned (slice_index owner b) b node bucket ∙ eq-eqb (slice_index owner b) (slice_index owner b) refl

  -- where no file of the lane is torn, none of a part is
  pub whole-part : AreWhole lane.files → (n : ℕ) → n < 16 → IsWholePart (part_at parts n)
  whole-part whole n node b bucket owned =
      ap (λ (k : ℕ). (file_in parts k b).torn) (sym (owner-is n b node bucket owned)) ∙ ap (λ (f : BucketState). f.torn) (are.files b bucket) ∙ whole b bucket

  -- a part that has a file is that of a node that owns a bucket
  pub used-in_use : (marks : List Bool) → ((b : ℕ) → b < 16 → slice_index owner b ≡ owner_of marks b) → (n : ℕ) → n < 16 → IsUsed (part_at parts n) → IsInUse marks n
  used-in_use marks is n node used = record {
    bucket = used.bucket;
    within = used.within;
    owner = sym (is used.bucket used.within) ∙ owner-is n used.bucket node used.within used.owned;
  }

  -- and the other way round
  pub in_use-used : (marks : List Bool) → ((b : ℕ) → b < 16 → slice_index owner b ≡ owner_of marks b) → ((b : ℕ) → b < 16 → slice_index owner b < 16) → (n : ℕ) → IsInUse marks n → IsUsed (part_at parts n)
  in_use-used marks is below n used = record {
    bucket = used.bucket;
    within = used.within;
    owned = subst (λ (k : ℕ). owns (part_at parts k) used.bucket ≡ true) (is used.bucket used.within ∙ used.owner) (is-owned used.bucket (below used.bucket used.within) used.within);
  }

  module _ (new : List PartState) (whole : LaneState) (told : Bool) (kinds : List Kind) (shares : Buckets) (below : (b : ℕ) → b < 16 → slice_index owner b < 16)
      (back : (b : ℕ) → b < 16 → file_of whole.files b ≡ file_in new (slice_index owner b) b) where
    -- a bucket's file is written where its owner wrote its part
    pub file-written : (b : ℕ) → b < 16 → WritesPart told kinds shares (part_at parts (slice_index owner b)) (part_at new (slice_index owner b)) → IsWritten told kinds (shares b) (file_of lane.files b) (file_of whole.files b)
    file-written b bucket wrote =
        subst (λ (f : BucketState). IsWritten told kinds (shares b) f (file_of whole.files b)) (are.files b bucket)
        (subst (IsWritten told kinds (shares b) (file_in parts (slice_index owner b) b)) (sym (back b bucket)) (wrote b bucket (is-owned b (below b bucket) bucket)))

    -- and begun where that began it
    pub file-begun : (b : ℕ) → b < 16 → BeginsPart told kinds shares (part_at parts (slice_index owner b)) (part_at new (slice_index owner b)) → IsBegun told kinds (shares b) (file_of lane.files b) (file_of whole.files b)
    file-begun b bucket began =
        subst (λ (f : BucketState). IsBegun told kinds (shares b) f (file_of whole.files b)) (are.files b bucket)
        (subst (IsBegun told kinds (shares b) (file_in parts (slice_index owner b) b)) (sym (back b bucket)) (began b bucket (is-owned b (below b bucket) bucket)))

    -- and whole where its owner's part is
    pub file-whole : HaveSameHeads parts new → (b : ℕ) → b < 16 → IsWholePart (part_at new (slice_index owner b)) → (file_of whole.files b).torn ≡ false
    file-whole heads b bucket is =
        let here : owns (part_at new (slice_index owner b)) b ≡ true = ap (λ (h : List Bool). slice_index_or h b false) (heads.here (slice_index owner b)) ∙ is-owned b (below b bucket) bucket in
        ap (λ (f : BucketState). f.torn) (back b bucket) ∙ is b bucket here
