-- A file that was written, and one that was begun.
use Rattle.std.proofs.Common.{◌≡◌, ◌⊎◌, inl, inr, ◌∙◌, ℕ, ◌+◌, ◌<◌, ◌≤◌, Bool, true, false, List, ◌++◌, length, refl, sym, ap, subst, append-nil, arith, IsTrue, Result, Ok, Err, OnOk, slice_index_or}
use Rattle.std.specs.Prelude.{OnErr}
use Rattle.std.proofs.lemmas.Bool.{cases_order}
use Rattle.std.proofs.lemmas.List.{take_all, drop_all}
use Rattle.hq_value.specs.declared.value.Value.{Value}
use Rattle.hq_value.specs.declared.kind.Kind.{Kind}
use Rattle.hq_value.specs.Bucket.{Buckets, share}
use Rattle.hq_value.specs.Kinds.{kinds_of}
use Rattle.hq_value.specs.Tables.{Definition}
use Rattle.hq_block.specs.Block.{FileRows, pack}
use Rattle.hq_block.proofs.Files.{files_joined}
use Rattle.hq_lane.specs.BucketFiles.{BucketState, own_bytes, IsGrown}
use Rattle.hq_lane.specs.Lanes.{LaneState, PartState, file_of, owns}
use Rattle.hq_lane.specs.Packing.{GrewByFirst}
use Rattle.hq_lane.proofs.Growing.{grew_none}
use Rattle.hq_txn.specs.Parts.{HasSameHead, IsWholePart, WritesPart, BeginsPart}
use Rattle.hq_txn.specs.Writes.{IsWritten, IsBegun, AddsRows, AddsFirst, GainsRows}

-- a file that has all rows has the first ones
pub begun-all : (told : Bool) (kinds : List Kind) (rows : List (List Value)) (old new : BucketState) → IsWritten told kinds rows old new → IsBegun told kinds rows old new
begun-all told kinds rows old new is = (
  length rows,
  record {
    added = pack kinds rows;
    first = subst (FileRows kinds (pack kinds rows)) (sym (take_all (length rows) rows (omega arith))) is.file;
    others = sym (ap (λ (rest : List (List Value)). pack kinds rows ++ pack kinds rest) (drop_all (length rows) rows (omega arith)) ∙ append-nil (pack kinds rows));
    grown = is.grown;
  },
)

-- one that is as before has none of them
pub begun-none : (told : Bool) (kinds : List Kind) (rows : List (List Value)) (old new : BucketState) → new ≡ old → IsBegun told kinds rows old new
begun-none told kinds rows old new same = (0, subst (GrewByFirst told kinds 0 rows old) (sym same) (grew_none told kinds rows old))

-- the rows behind the committed ones are the earlier ones and then those that were written
pub gains : (told : Bool) (kinds : List Kind) (rows kept : List (List Value)) (old new : BucketState) → IsWritten told kinds rows old new → IsTrue told → FileRows kinds (own_bytes old) kept → FileRows kinds (own_bytes new) (kept ++ rows)
gains told kinds rows kept old new is t file =
    subst (λ (bytes : List ℕ). FileRows kinds bytes (kept ++ rows)) (sym (is.grown.own t)) (files_joined kinds (own_bytes old) (pack kinds rows) kept rows file is.file)

-- what an append answers of the file that it grew
pub written-told : {E : Type 0} (result : Result Unit E) (told : Bool) (kinds : List Kind) (rows chosen : List (List Value)) (old new : BucketState) → chosen ≡ rows
    → OnOk result (IsGrown told old (pack kinds chosen) new) → OnOk result (FileRows kinds (pack kinds chosen) chosen) → OnOk result (new.torn ≡ false) → OnOk result (IsWritten told kinds rows old new)
written-told (Err why) told kinds rows chosen old new same grown file whole = tt
written-told (Ok done) told kinds rows chosen old new same grown file whole =
    subst (λ (all : List (List Value)). IsWritten told kinds all old new) same (record { grown = grown; file = file; whole = whole })

pub begun-told : {E : Type 0} (result : Result Unit E) (told : Bool) (kinds : List Kind) (rows chosen : List (List Value)) (old new : BucketState) → chosen ≡ rows
    → OnOk result (IsWritten told kinds rows old new) → OnErr result ((count : ℕ) × GrewByFirst told kinds count chosen old new) → IsBegun told kinds rows old new
begun-told (Ok done) told kinds rows chosen old new same wrote first = begun-all told kinds rows old new wrote
begun-told (Err why) told kinds rows chosen old new same wrote first = subst (λ (all : List (List Value)). (count : ℕ) × GrewByFirst told kinds count all old new) same first

-- one file more of a part is written
pub writes-more : (told : Bool) (kinds : List Kind) (shares : Buckets) (old now new : PartState) (i : ℕ) → HasSameHead old now
    → ((b : ℕ) → b < i → owns old b ≡ true → IsWritten told kinds (shares b) (file_of old.files b) (file_of now.files b))
    → ((b : ℕ) → i ≤ b → file_of now.files b ≡ file_of old.files b)
    → ((b : ℕ) → (b ≡ i → ⊥) → file_of new.files b ≡ file_of now.files b)
    → (owns now i ≡ true → IsWritten told kinds (shares i) (file_of now.files i) (file_of new.files i))
    → (b : ℕ) → b < i + 1 → owns old b ≡ true → IsWritten told kinds (shares b) (file_of old.files b) (file_of new.files b)
writes-more told kinds shares old now new i head before rest others this b within owned = by (cases_order b i)
  where
    by : (b ≡ i) ⊎ ((b < i) ⊎ (i < b)) → IsWritten told kinds (shares b) (file_of old.files b) (file_of new.files b)
    by (inl same) =
        let here : owns now i ≡ true = ap (λ (h : List Bool). slice_index_or h i false) head.here ∙ ap (owns old) (sym same) ∙ owned in
        subst (λ (k : ℕ). IsWritten told kinds (shares k) (file_of old.files k) (file_of new.files k)) (sym same)
        (subst (λ (f : BucketState). IsWritten told kinds (shares i) f (file_of new.files i)) (rest i (omega arith)) (this here))
    by (inr (inl less)) = subst (IsWritten told kinds (shares b) (file_of old.files b)) (sym (others b (λ e. omega (arith, less, e)))) (before b less owned)
    by (inr (inr more)) = absurd (omega (arith, within, more))

-- a part of which the files so far are written, and one is begun
pub begins-part : (told : Bool) (kinds : List Kind) (shares : Buckets) (old now new : PartState) (i : ℕ) → HasSameHead old now
    → ((b : ℕ) → b < i → owns old b ≡ true → IsWritten told kinds (shares b) (file_of old.files b) (file_of now.files b))
    → ((b : ℕ) → i ≤ b → file_of now.files b ≡ file_of old.files b)
    → ((b : ℕ) → (b ≡ i → ⊥) → file_of new.files b ≡ file_of now.files b)
    → (owns now i ≡ true → IsBegun told kinds (shares i) (file_of now.files i) (file_of new.files i))
    → BeginsPart told kinds shares old new
begins-part told kinds shares old now new i head before rest others this = λ b within owned. by b owned (cases_order b i)
  where
    by : (b : ℕ) → owns old b ≡ true → (b ≡ i) ⊎ ((b < i) ⊎ (i < b)) → IsBegun told kinds (shares b) (file_of old.files b) (file_of new.files b)
    by b owned (inl same) =
        let here : owns now i ≡ true = ap (λ (h : List Bool). slice_index_or h i false) head.here ∙ ap (owns old) (sym same) ∙ owned in
        subst (λ (k : ℕ). IsBegun told kinds (shares k) (file_of old.files k) (file_of new.files k)) (sym same)
        (subst (λ (f : BucketState). IsBegun told kinds (shares i) f (file_of new.files i)) (rest i (omega arith)) (this here))
    by b owned (inr (inl less)) = subst (IsBegun told kinds (shares b) (file_of old.files b)) (sym (others b (λ e. omega (arith, less, e)))) (begun-all told kinds (shares b) (file_of old.files b) (file_of now.files b) (before b less owned))
    by b owned (inr (inr more)) = begun-none told kinds (shares b) (file_of old.files b) (file_of new.files b) (others b (λ e. omega (arith, more, e)) ∙ rest b (omega (arith, more)))

-- one of which each file is written is whole
pub whole-part-written : (told : Bool) (kinds : List Kind) (shares : Buckets) (old new : PartState) → HasSameHead old new → WritesPart told kinds shares old new → IsWholePart new
whole-part-written told kinds shares old new head wrote = λ b within owned. (wrote b within (ap (λ (h : List Bool). slice_index_or h b false) (sym head.here) ∙ owned)).whole

-- one of which the files so far are written, and one is not torn
pub whole-part-begun : (told : Bool) (kinds : List Kind) (shares : Buckets) (old now new : PartState) (i : ℕ) → HasSameHead old now → HasSameHead now new → IsWholePart old
    → ((b : ℕ) → b < i → owns old b ≡ true → IsWritten told kinds (shares b) (file_of old.files b) (file_of now.files b))
    → ((b : ℕ) → i ≤ b → file_of now.files b ≡ file_of old.files b)
    → ((b : ℕ) → (b ≡ i → ⊥) → file_of new.files b ≡ file_of now.files b)
    → (owns now i ≡ true → (file_of new.files i).torn ≡ false)
    → IsWholePart new
whole-part-begun told kinds shares old now new i head next whole before rest others this = λ b within owned. by b within owned (cases_order b i)
  where
    by : (b : ℕ) → b < 16 → owns new b ≡ true → (b ≡ i) ⊎ ((b < i) ⊎ (i < b)) → (file_of new.files b).torn ≡ false
    by b within owned (inl same) =
        let here : owns now i ≡ true = ap (λ (h : List Bool). slice_index_or h i false) (sym next.here) ∙ ap (owns new) (sym same) ∙ owned in
        ap (λ (k : ℕ). (file_of new.files k).torn) same ∙ this here
    by b within owned (inr (inl less)) =
        let here : owns old b ≡ true = ap (λ (h : List Bool). slice_index_or h b false) (sym head.here) ∙ ap (λ (h : List Bool). slice_index_or h b false) (sym next.here) ∙ owned in
        ap (λ (f : BucketState). f.torn) (others b (λ e. omega (arith, less, e))) ∙ (before b less here).whole
    by b within owned (inr (inr more)) =
        let here : owns old b ≡ true = ap (λ (h : List Bool). slice_index_or h b false) (sym head.here) ∙ ap (λ (h : List Bool). slice_index_or h b false) (sym next.here) ∙ owned in
        ap (λ (f : BucketState). f.torn) (others b (λ e. omega (arith, more, e))) ∙ ap (λ (f : BucketState). f.torn) (rest b (omega (arith, more))) ∙ whole b within here

-- a part of which each file is written
pub begins-all : (told : Bool) (kinds : List Kind) (shares : Buckets) (old new : PartState) → WritesPart told kinds shares old new → BeginsPart told kinds shares old new
begins-all told kinds shares old new wrote = λ b within owned. begun-all told kinds (shares b) (file_of old.files b) (file_of new.files b) (wrote b within owned)

-- what was written to a lane is behind its earlier rows
pub lane-gains : (told : Bool) (def : Definition) (rows : List (List Value)) (old new : LaneState) → AddsRows told def rows old new → GainsRows told def rows old new
lane-gains told def rows old new wrote = λ b kept within t file. gains told (kinds_of def.columns) (share def.keys rows b) kept (file_of old.files b) (file_of new.files b) (wrote.files b within) t file

-- a lane that stays has none of the rows
pub adds-none : (told : Bool) (def : Definition) (rows : List (List Value)) (lane : LaneState) → AddsFirst told def rows lane lane
adds-none told def rows lane = record {
  table = refl;
  number = refl;
  files = λ b within. begun-none told (kinds_of def.columns) (share def.keys rows b) (file_of lane.files b) (file_of lane.files b) refl;
}

module _ (told : Bool) (def : Definition) (rows : List (List Value)) (kinds : List Kind) (shares : Buckets) (lane taken whole put : LaneState) (kinds-are : kinds ≡ kinds_of def.columns) (shares-are : (b : ℕ) → shares b ≡ share def.keys rows b)
    (out : taken ≡ lane) (back : put ≡ whole) (table : whole.table ≡ taken.table) (number : whole.number ≡ taken.number) where
  turned : (P : List Kind → List (List Value) → BucketState → BucketState → Type 0) (b : ℕ) → P kinds (shares b) (file_of taken.files b) (file_of whole.files b) → P (kinds_of def.columns) (share def.keys rows b) (file_of lane.files b) (file_of put.files b)
  turned P b holds =
      subst (λ (ks : List Kind). P ks (share def.keys rows b) (file_of lane.files b) (file_of put.files b)) kinds-are
      (subst (λ (rs : List (List Value)). P kinds rs (file_of lane.files b) (file_of put.files b)) (shares-are b)
      (subst (λ (l : LaneState). P kinds (shares b) (file_of l.files b) (file_of put.files b)) out
      (subst (λ (l : LaneState). P kinds (shares b) (file_of taken.files b) (file_of l.files b)) (sym back) holds)))

  pub lane-written : ((b : ℕ) → b < 16 → IsWritten told kinds (shares b) (file_of taken.files b) (file_of whole.files b)) → AddsRows told def rows lane put
  lane-written wrote = record {
    table = ap (λ (l : LaneState). l.table) back ∙ table ∙ ap (λ (l : LaneState). l.table) out;
    number = ap (λ (l : LaneState). l.number) back ∙ number ∙ ap (λ (l : LaneState). l.number) out;
    files = λ b within. turned (IsWritten told) b (wrote b within);
  }

  pub lane-begun : ((b : ℕ) → b < 16 → IsBegun told kinds (shares b) (file_of taken.files b) (file_of whole.files b)) → AddsFirst told def rows lane put
  lane-begun began = record {
    table = ap (λ (l : LaneState). l.table) back ∙ table ∙ ap (λ (l : LaneState). l.table) out;
    number = ap (λ (l : LaneState). l.number) back ∙ number ∙ ap (λ (l : LaneState). l.number) out;
    files = λ b within. turned (IsBegun told) b (began b within);
  }
