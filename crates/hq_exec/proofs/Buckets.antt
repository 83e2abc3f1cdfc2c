-- The rows of a table, file by file and bucket by bucket.
use Rattle.std.proofs.Common.{◌≡◌, ◌∙◌, ℕ, ◌+◌, ◌<◌, ◌==◌, Bool, true, false, cond, eq-eqb, List, [], ◌∷◌, ◌++◌, length, Option, Some, None, Ok, Err, Result, IsTrue, arith, refl, sym, ap, subst}
use Rattle.std.specs.Prelude.{flat_map, sum_by, OnOk}
use Rattle.std.specs.Option.{option_map_or}
use Rattle.std.proofs.lemmas.Bool.{ne_eqb}
use Rattle.hq_value.specs.declared.kind.Kind.{Kind}
use Rattle.hq_block.specs.declared.skip.ColumnTest.{ColumnTest}
use Rattle.hq_store.specs.FileStep.{SealState}
use Rattle.hq_lane.specs.BucketFiles.{own_bytes}
use Rattle.hq_lane.specs.Cursors.{CursorState}
use Rattle.hq_lane.specs.FileBlocks.{kept_rows, read_sum}
use Rattle.hq_lane.specs.Lanes.{LaneState, file_of}
use Rattle.hq_snap.specs.Snaps.{TableSnapState, seal_at, seal_bytes}
use Rattle.hq_lane.specs.Scans.{IsFile}
use Rattle.hq_exec.specs.declared.end.Ending.{Ending}
use Rattle.hq_exec.specs.Feeding.{Fed}
use Rattle.hq_exec.specs.Files.{HeldState, has_bucket, table_in, lanes_in, kinds_in, lanes_bytes, own_file, own_files, bucket_files, given_files, buckets_files, kept_in, reads_in}
use Rattle.hq_exec.specs.Lines.{LineState, CanTake}
use Rattle.hq_exec.specs.Slices.{HasFiles}
use Rattle.hq_exec.proofs.Rows.{both-parts}
use Rattle.hq_exec.proofs.Feeds.{fed-none, fed-as, fed-one, fed-cons, fed-append, FedFiles, more-buckets}

-- the lanes of a table that is there
pub lanes-of : (h : HeldState) (t : ℕ) (snap : TableSnapState) → table_in h.tables t ≡ Some snap → lanes_in h t ≡ snap.lanes
lanes-of h t snap e = ap (λ (o : Option TableSnapState). option_map_or (λ (s : TableSnapState). s.lanes) o []) e

pub same-table : (a b : ℕ) → a ≡ b → (a == b) ≡ true
same-table a b e = eq-eqb a b e

-- what its files are blocks of
pub table-files : (kinds : List Kind) (h : HeldState) (t : ℕ) (snap : TableSnapState) → table_in h.tables t ≡ Some snap → ((b : ℕ) → HasFiles kinds (lanes_bytes (lanes_in h t) b)) → (b : ℕ) → HasFiles kinds (lanes_bytes snap.lanes b)
table-files kinds h t snap e all b = subst (λ (l : List (List (Option SealState))). HasFiles kinds (lanes_bytes l b)) (lanes-of h t snap e) (all b)

-- what the lanes' files are blocks of
pub lanes-parts : (kinds : List Kind) (lanes : List (List (Option SealState))) (first : List (Option SealState)) (others : List (List (Option SealState))) (b : ℕ) → lanes ≡ first ∷ others → HasFiles kinds (lanes_bytes lanes b)
    → IsFile kinds (seal_bytes (seal_at first b)) × HasFiles kinds (lanes_bytes others b)
lanes-parts kinds lanes first others b is all = by (subst (λ (l : List (List (Option SealState))). HasFiles kinds (lanes_bytes l b)) is all)
  where
    by : IsFile kinds (seal_bytes (seal_at first b)) × HasFiles kinds (lanes_bytes others b) → IsFile kinds (seal_bytes (seal_at first b)) × HasFiles kinds (lanes_bytes others b)
    by h = h

pub own-parts : (kinds : List Kind) (own : List LaneState) (first : LaneState) (others : List LaneState) (t b : ℕ) → own ≡ first ∷ others → HasFiles kinds (own_files own t b) → HasFiles kinds (own_file t b first) × HasFiles kinds (own_files others t b)
own-parts kinds own first others t b is all = both-parts (IsFile kinds) (own_file t b first) (own_files others t b) (subst (λ (l : List LaneState). HasFiles kinds (own_files l t b)) is all)

pub own-stands : (kinds : List Kind) (lane : LaneState) (t b : ℕ) → lane.table ≡ t → HasFiles kinds (own_file t b lane) → IsFile kinds (own_bytes (file_of lane.files b))
own-stands kinds lane t b same all = by (subst (λ (q : Bool). HasFiles kinds (cond q (own_bytes (file_of lane.files b) ∷ []) [])) (same-table lane.table t same) all)
  where
    by : HasFiles kinds (own_bytes (file_of lane.files b) ∷ []) → IsFile kinds (own_bytes (file_of lane.files b))
    by h = h.0

module _ {S : Type 0} (faults given : S → ℕ) (sound : S → Type 0) (kinds : List Kind) (tests : List ColumnTest) where
  abbrev Files : Type 0 → List (List ℕ) → S → S → LineState → LineState → Type 0
  Files told files a b x y = FedFiles faults given sound told kinds tests files a b x y

  abbrev One : Type 0 → List ℕ → S → S → LineState → LineState → Type 0
  One told bytes a b x y = Fed faults given sound told kinds (kept_rows tests kinds bytes) [] (read_sum tests kinds bytes) 0 a b x y

  -- no file
  pub fed-no-file : (told : Type 0) (a : S) (x : LineState) → CanTake kinds x → Files told [] a a x x
  fed-no-file told a x can = fed-none faults given sound told kinds [] 0 a x can

  -- the same where more is told
  pub fed-told : (told now : Type 0) (files : List (List ℕ)) (a b : S) (x y : LineState) → (now → told) → Files told files a b x y → Files now files a b x y
  fed-told told now files a b x y more f =
      fed-as faults given sound told kinds now (flat_map (kept_rows tests kinds) files) (flat_map (kept_rows tests kinds) files) (sum_by (read_sum tests kinds) files) (sum_by (read_sum tests kinds) files) a b x y more (λ t. refl) (λ t. refl) f

  -- a file under a seal, if there is one
  pub fed-no-seal : (told : Type 0) (seal : Option SealState) (a : S) (x : LineState) → None ≡ seal → CanTake kinds x → One told (seal_bytes seal) a a x x
  fed-no-seal told seal a x none can = subst (λ (z : Option SealState). One told (seal_bytes z) a a x x) none (fed-none faults given sound told kinds [] 0 a x can)

  -- what a cursor passed
  pub fed-cursor : (told : Bool) (bytes : List ℕ) (cursor : CursorState) (a b : S) (x y : LineState) → cursor.told ≡ told → cursor.kinds ≡ kinds → cursor.tests ≡ tests → (IsTrue told → cursor.left ≡ bytes)
      → Fed faults given sound (IsTrue cursor.told) cursor.kinds (kept_rows cursor.tests cursor.kinds cursor.left) [] (read_sum cursor.tests cursor.kinds cursor.left) 0 a b x y → One (IsTrue told) bytes a b x y
  fed-cursor told bytes cursor a b x y told-is kinds-are tests-are bytes-are f =
      fed-as faults given sound (IsTrue cursor.told) kinds (IsTrue told) (kept_rows cursor.tests cursor.kinds cursor.left) (kept_rows tests kinds bytes) (read_sum cursor.tests cursor.kinds cursor.left) (read_sum tests kinds bytes) a b x y
      (λ t. told-is ∙ t) (λ t. sym (λ i. kept_rows (tests-are i) (kinds-are i) (bytes-are t i))) (λ t. sym (λ i. read_sum (tests-are i) (kinds-are i) (bytes-are t i)))
      (subst (λ (k : List Kind). Fed faults given sound (IsTrue cursor.told) k (kept_rows cursor.tests cursor.kinds cursor.left) [] (read_sum cursor.tests cursor.kinds cursor.left) 0 a b x y) kinds-are f)

  -- an own lane, if it is one of the table
  pub fed-other : (told : Type 0) (lane : LaneState) (t b : ℕ) (a : S) (x : LineState) → (lane.table ≡ t → ⊥) → CanTake kinds x → Files told (own_file t b lane) a a x x
  fed-other told lane t b a x other can =
      subst (λ (q : Bool). Files told (cond q (own_bytes (file_of lane.files b) ∷ []) []) a a x x) (sym (ne_eqb lane.table t other)) (fed-no-file told a x can)

  pub fed-own : (told : Type 0) (lane : LaneState) (t b : ℕ) (a c : S) (x y : LineState) → lane.table ≡ t → One told (own_bytes (file_of lane.files b)) a c x y → Files told (own_file t b lane) a c x y
  fed-own told lane t b a c x y same f =
      subst (λ (q : Bool). Files told (cond q (own_bytes (file_of lane.files b) ∷ []) []) a c x y) (sym (same-table lane.table t same)) (fed-one faults given sound told kinds tests (own_bytes (file_of lane.files b)) a c x y f)

  -- the committed files of a bucket, and then the own ones
  pub fed-bucket : (A B : Type 0) (lanes : List (List (Option SealState))) (h : HeldState) (t n : ℕ) (a b c : S) (x y z : LineState) → Files A (lanes_bytes lanes n) a b x y → Files B (own_files h.own t n) b c y z → Files (A × B) (bucket_files lanes h t n) a c x z
  fed-bucket A B lanes h t n a b c x y z f g =
      fed-append faults given sound (A × B) kinds tests (lanes_bytes lanes n) (own_files h.own t n) a b c x y z (fed-told A (A × B) (lanes_bytes lanes n) a b x y (λ t. t.0) f) (fed-told B (A × B) (own_files h.own t n) b c y z (λ t. t.1) g)

  -- a bucket, if it is given
  pub fed-not-given : (told : Type 0) (lanes : List (List (Option SealState))) (h : HeldState) (t n : ℕ) (a : S) (x : LineState) → has_bucket h.buckets n ≡ false → CanTake kinds x → Files told (given_files lanes h t n) a a x x
  fed-not-given told lanes h t n a x not can = subst (λ (q : Bool). Files told (cond q (bucket_files lanes h t n) []) a a x x) (sym not) (fed-no-file told a x can)

  pub fed-given : (told : Type 0) (lanes : List (List (Option SealState))) (h : HeldState) (t n : ℕ) (a b : S) (x y : LineState) → has_bucket h.buckets n ≡ true → Files told (bucket_files lanes h t n) a b x y → Files told (given_files lanes h t n) a b x y
  fed-given told lanes h t n a b x y is f = subst (λ (q : Bool). Files told (cond q (bucket_files lanes h t n) []) a b x y) (sym is) f

  -- the buckets from one on
  pub fed-past : (told : Type 0) (lanes : List (List (Option SealState))) (h : HeldState) (t n : ℕ) (a : S) (x : LineState) → n ≡ 16 → CanTake kinds x → Files told (buckets_files lanes h t n) a a x x
  fed-past told lanes h t n a x end can = subst (λ (m : ℕ). Files told (buckets_files lanes h t m) a a x x) (sym end) (fed-no-file told a x can)

  pub fed-buckets : (told : Type 0) (lanes : List (List (Option SealState))) (h : HeldState) (t n : ℕ) (a b c : S) (x y z : LineState) → n < 16 → Files told (given_files lanes h t n) a b x y → Files told (buckets_files lanes h t (n + 1)) b c y z
      → Files told (buckets_files lanes h t n) a c x z
  fed-buckets told lanes h t n a b c x y z low f g =
      subst (λ (files : List (List ℕ)). Files told files a c x z) (sym (more-buckets lanes h t n low)) (fed-append faults given sound told kinds tests (given_files lanes h t n) (buckets_files lanes h t (n + 1)) a b c x y z f g)

  -- all of a table
  pub fed-table : (told : Type 0) (h : HeldState) (t : ℕ) (snap : TableSnapState) (a b : S) (x y : LineState) → table_in h.tables t ≡ Some snap → kinds_in h t ≡ kinds → Files told (buckets_files snap.lanes h t 0) a b x y
      → Fed faults given sound told kinds (kept_in tests h t) [] (reads_in tests h t) 0 a b x y
  fed-table told h t snap a b x y found same f =
      fed-as faults given sound told kinds told (flat_map (kept_rows tests kinds) (buckets_files snap.lanes h t 0)) (kept_in tests h t) (sum_by (read_sum tests kinds) (buckets_files snap.lanes h t 0)) (reads_in tests h t) a b x y
      (λ t. t) (λ q. λ i. flat_map (kept_rows tests (same i)) (buckets_files (lanes-of h t snap found i) h t 0)) (λ q. λ i. sum_by (read_sum tests (same i)) (buckets_files (lanes-of h t snap found i) h t 0)) f

  -- the same of what is left of a call
  pub cursor-so : (r : Result Unit Ending) (told : Bool) (bytes : List ℕ) (cursor : CursorState) (a b : S) (x y : LineState) → cursor.told ≡ told → cursor.kinds ≡ kinds → cursor.tests ≡ tests → (IsTrue told → cursor.left ≡ bytes)
      → OnOk r (Fed faults given sound (IsTrue cursor.told) cursor.kinds (kept_rows cursor.tests cursor.kinds cursor.left) [] (read_sum cursor.tests cursor.kinds cursor.left) 0 a b x y) → OnOk r (One (IsTrue told) bytes a b x y)
  cursor-so (Ok q) told bytes cursor a b x y told-is kinds-are tests-are bytes-are f = fed-cursor told bytes cursor a b x y told-is kinds-are tests-are bytes-are f
  cursor-so (Err e) told bytes cursor a b x y told-is kinds-are tests-are bytes-are f = tt

  pub own-so : (r : Result Unit Ending) (told : Type 0) (lane : LaneState) (t b : ℕ) (a c : S) (x y : LineState) → lane.table ≡ t → OnOk r (One told (own_bytes (file_of lane.files b)) a c x y) → OnOk r (Files told (own_file t b lane) a c x y)
  own-so (Ok q) told lane t b a c x y same f = fed-own told lane t b a c x y same f
  own-so (Err e) told lane t b a c x y same f = tt

  -- lanes one after another
  pub no-lane : (told : Type 0) (lanes : List (List (Option SealState))) (b : ℕ) (a : S) (x : LineState) → length lanes ≡ 0 → CanTake kinds x → Files told (lanes_bytes lanes b) a a x x
  no-lane told [] b a x none can = fed-no-file told a x can
  no-lane told (l ∷ lanes) b a x none can = absurd (omega (arith, none))

  pub lanes-so : (r : Result Unit Ending) (told : Type 0) (lanes : List (List (Option SealState))) (first : List (Option SealState)) (others : List (List (Option SealState))) (n : ℕ) (a b c : S) (x y z : LineState) → lanes ≡ first ∷ others
      → One told (seal_bytes (seal_at first n)) a b x y → OnOk r (Files told (lanes_bytes others n) b c y z) → OnOk r (Files told (lanes_bytes lanes n) a c x z)
  lanes-so (Ok q) told lanes first others n a b c x y z is f g =
      subst (λ (l : List (List (Option SealState))). Files told (lanes_bytes l n) a c x z) (sym is) (fed-cons faults given sound told kinds tests (seal_bytes (seal_at first n)) (lanes_bytes others n) a b c x y z f g)
  lanes-so (Err e) told lanes first others n a b c x y z is f g = tt

  pub no-own : (told : Type 0) (own : List LaneState) (t b : ℕ) (a : S) (x : LineState) → length own ≡ 0 → CanTake kinds x → Files told (own_files own t b) a a x x
  no-own told [] t b a x none can = fed-no-file told a x can
  no-own told (l ∷ own) t b a x none can = absurd (omega (arith, none))

  pub owns-so : (r : Result Unit Ending) (told : Type 0) (own : List LaneState) (first : LaneState) (others : List LaneState) (t n : ℕ) (a b c : S) (x y z : LineState) → own ≡ first ∷ others
      → Files told (own_file t n first) a b x y → OnOk r (Files told (own_files others t n) b c y z) → OnOk r (Files told (own_files own t n) a c x z)
  owns-so (Ok q) told own first others t n a b c x y z is f g =
      subst (λ (l : List LaneState). Files told (own_files l t n) a c x z) (sym is) (fed-append faults given sound told kinds tests (own_file t n first) (own_files others t n) a b c x y z f g)
  owns-so (Err e) told own first others t n a b c x y z is f g = tt

  -- buckets one after another
  pub bucket-so : (r : Result Unit Ending) (A B : Type 0) (found lanes : List (List (Option SealState))) (own : List LaneState) (h : HeldState) (t n : ℕ) (a b c : S) (x y z : LineState) → found ≡ lanes → own ≡ h.own
      → Files A (lanes_bytes found n) a b x y → OnOk r (Files B (own_files own t n) b c y z) → OnOk r (Files (A × B) (bucket_files lanes h t n) a c x z)
  bucket-so (Ok q) A B found lanes own h t n a b c x y z same is f g =
      fed-bucket A B lanes h t n a b c x y z (subst (λ (l : List (List (Option SealState))). Files A (lanes_bytes l n) a b x y) same f) (subst (λ (w : List LaneState). Files B (own_files w t n) b c y z) is g)
  bucket-so (Err e) A B found lanes own h t n a b c x y z same is f g = tt

  pub given-so : (r : Result Unit Ending) (told : Type 0) (lanes : List (List (Option SealState))) (h : HeldState) (t n : ℕ) (a b : S) (x y : LineState) → has_bucket h.buckets n ≡ true → OnOk r (Files told (bucket_files lanes h t n) a b x y)
      → OnOk r (Files told (given_files lanes h t n) a b x y)
  given-so (Ok q) told lanes h t n a b x y is f = fed-given told lanes h t n a b x y is f
  given-so (Err e) told lanes h t n a b x y is f = tt

  pub buckets-so : (r : Result Unit Ending) (told : Type 0) (lanes : List (List (Option SealState))) (h : HeldState) (t n : ℕ) (a b c : S) (x y z : LineState) → n < 16 → Files told (given_files lanes h t n) a b x y
      → OnOk r (Files told (buckets_files lanes h t (n + 1)) b c y z) → OnOk r (Files told (buckets_files lanes h t n) a c x z)
  buckets-so (Ok q) told lanes h t n a b c x y z low f g = fed-buckets told lanes h t n a b c x y z low f g
  buckets-so (Err e) told lanes h t n a b c x y z low f g = tt

  pub table-so : (r : Result Unit Ending) (told : Type 0) (h : HeldState) (t : ℕ) (snap : TableSnapState) (a b : S) (x y : LineState) → table_in h.tables t ≡ Some snap → kinds_in h t ≡ kinds → OnOk r (Files told (buckets_files snap.lanes h t 0) a b x y)
      → OnOk r (Fed faults given sound told kinds (kept_in tests h t) [] (reads_in tests h t) 0 a b x y)
  table-so (Ok q) told h t snap a b x y found same f = fed-table told h t snap a b x y found same f
  table-so (Err e) told h t snap a b x y found same f = tt
