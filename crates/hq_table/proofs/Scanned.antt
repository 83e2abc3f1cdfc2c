-- The rows under seals.
use Rattle.std.proofs.Common.{◌≡◌, ◌+◌, ◌<◌, ℕ, suc, List, [], ◌++◌, Option, Result, Ok, Err, IfOk, length, ap, sym, ◌∙◌, arith, append_assoc, append-nil}
use Rattle.std.proofs.lemmas.List.{get_or-map}
use Rattle.std.proofs.Common.{slice_index_or}
use Rattle.hq_value.specs.declared.value.Value.{Value}
use Rattle.hq_value.specs.declared.kind.Kind.{Kind}
use Rattle.hq_value.specs.Bucket.{Buckets, joined}
use Rattle.hq_block.specs.declared.skip.ColumnTest.{ColumnTest}
use Rattle.hq_lane.specs.FileBlocks.{kept_rows}
use Rattle.hq_table.specs.Kept.{bytes_in}
use Rattle.hq_table.specs.Home.{files_of, seal_bytes}
use Rattle.hq_store.specs.Pages.{Shared}

pub slot-bytes : (seals : List (Option Shared)) (b : ℕ) (slot : Option Shared) → b < length seals → slot ≡ slice_index_or seals b slot → bytes_in (files_of seals) b ≡ seal_bytes slot
slot-bytes seals b slot within is = get_or-map seal_bytes seals b slot [] within ∙ ap seal_bytes (sym is)

pub joined-more : (n : ℕ) (rows : Buckets) → joined (n + 1) rows ≡ joined n rows ++ rows n
joined-more n rows = ap (λ m. joined m rows) (let e : n + 1 ≡ suc n = omega arith in e)

pub map-ok : {T E : Type 0} {P Q : T → Type 0} (result : Result T E) → ((t : T) → P t → Q t) → IfOk result P → IfOk result Q
map-ok (Ok t) f h = f t h
map-ok (Err e) f h = tt

-- the rows of a block more, by a cursor without tests
pub kept-more : (kinds own : List Kind) (tests : List ColumnTest) (left rest : List ℕ) (now new found all : List (List Value)) → own ≡ kinds → tests ≡ [] → now ++ kept_rows [] kinds left ≡ all → new ≡ now ++ found
    → kept_rows tests own left ≡ found ++ kept_rows tests own rest → new ++ kept_rows [] kinds rest ≡ all
kept-more kinds own tests left rest now new found all same none so_far added step =
    let goes : kept_rows [] kinds left ≡ found ++ kept_rows [] kinds rest = sym (λ i. kept_rows (none i) (same i) left) ∙ step ∙ (λ i. found ++ kept_rows (none i) (same i) rest) in
    ap (λ l. l ++ kept_rows [] kinds rest) added ∙ append_assoc now found (kept_rows [] kinds rest) ∙ ap (λ l. now ++ l) (sym goes) ∙ so_far

-- no block is left
pub kept-all : (kinds : List Kind) (left : List ℕ) (now all : List (List Value)) → left ≡ [] → now ++ kept_rows [] kinds left ≡ all → now ≡ all
kept-all kinds left now all none so_far = sym (append-nil now) ∙ ap (λ l. now ++ kept_rows [] kinds l) (sym none) ∙ so_far
