-- Rows that are read and pushed, one part after another.
use Rattle.std.proofs.Common.{◌≡◌, ◌∙◌, ℕ, zero, suc, ◌+◌, ◌-◌, ◌^◌, ◌<◌, ◌≤◌, ◌==◌, min, Bool, true, false, cond, List, [], ◌∷◌, ◌++◌, length, take, drop, map, append_assoc, append-nil, Option, Some, None, Ok, Err, Result, IsTrue, refl, sym, ap, subst, arith}
use Rattle.std.specs.Prelude.{flat_map, sum_by, filter, All}
use Rattle.std.specs.List.{AllByRecursion, range_with_len}
use Rattle.std.specs.Prelude.{slice_range}
use Rattle.std.proofs.Math.Seq.{take-add}
use Rattle.std.proofs.lemmas.Grind.{flat_map-append}
use Rattle.std.proofs.lemmas.List.{take-append-drop, take_all}
use Rattle.std.proofs.lemmas.List.Sums.{sum_by-cons, sum_by-append}
use Rattle.hq_value.specs.declared.value.Value.{Value}
use Rattle.hq_value.specs.declared.kind.Kind.{Kind}
use Rattle.hq_value.specs.Causes.{GoesOnGiving}
use Rattle.hq_value.specs.Kinds.{Fits}
use Rattle.hq_value.proofs.Counting.{giving_more}
use Rattle.hq_block.specs.declared.head.BlockHead.{BlockHead}
use Rattle.hq_block.specs.declared.skip.ColumnTest.{ColumnTest}
use Rattle.hq_block.specs.Skipping.{read_length}
use Rattle.hq_fits.specs.Supplied.{AreFit}
use Rattle.hq_lane.specs.Cursors.{CursorState, HasPassed}
use Rattle.hq_lane.specs.FileBlocks.{kept_rows, read_sum}
use Rattle.hq_meaning.specs.Rows.{Row}
use Rattle.hq_store.specs.FileStep.{SealState}
use Rattle.hq_exec.specs.Feeding.{Fed}
use Rattle.hq_exec.specs.Files.{HeldState, given_files, buckets_files}
use Rattle.hq_exec.specs.Lines.{LineState, HasRun, HasGiven, Takes, CanTake}
use Rattle.hq_exec.specs.Outs.{OutState}
use Rattle.hq_exec.proofs.Adding.{adds-none, adds-both}
use Rattle.hq_exec.proofs.Rows.{both-parts, joined-parts, each-of}

-- no rows
pub takes-none : (kinds : List Kind) (line : LineState) → Takes kinds [] line line
takes-none kinds line = λ out ss pushed put run. record {
  added = [];
  run = subst (λ (l : List Row). HasRun kinds out ss l (put ++ []) line.failed line.pipes) (sym (append-nil pushed)) (subst (λ (l : List Row). HasRun kinds out ss pushed l line.failed line.pipes) (sym (append-nil put)) run);
  given = adds-none line.out;
}

-- rows behind others
pub takes-more : (kinds : List Kind) (first next : List Row) (a b c : LineState) → Takes kinds first a b → Takes kinds next b c → Takes kinds (first ++ next) a c
takes-more kinds first next a b c f g = λ out ss pushed put run.
    let one : HasGiven kinds out ss (pushed ++ first) put a b = f out ss pushed put run in
    let two : HasGiven kinds out ss ((pushed ++ first) ++ next) (put ++ one.added) b c = g out ss (pushed ++ first) (put ++ one.added) one.run in
    record {
      added = one.added ++ two.added;
      run = subst (λ (l : List Row). HasRun kinds out ss l (put ++ (one.added ++ two.added)) c.failed c.pipes) (append_assoc pushed first next)
          (subst (λ (l : List Row). HasRun kinds out ss ((pushed ++ first) ++ next) l c.failed c.pipes) (append_assoc put one.added two.added) two.run);
      given = adds-both one.added two.added a.out b.out c.out one.given two.given;
    }

-- rows up to a place, and those from there to another
up-to : (rows : List Row) (at end : ℕ) → at ≤ end → take end rows ≡ take at rows ++ slice_range rows at end
up-to rows at end low = let e : end ≡ at + (end - at) = omega arith in ap (λ n. take n rows) e ∙ take-add at (end - at) rows

pub some-fit : (kinds : List Kind) (rows : List Row) (at end : ℕ) → at ≤ end → AreFit kinds rows → AreFit kinds (slice_range rows at end)
some-fit kinds rows at end low fit =
    let whole : AreFit kinds (take end rows ++ drop end rows) = subst (λ (l : List Row). AreFit kinds l) (sym (take-append-drop end rows)) fit in
    let front : AreFit kinds (take at rows ++ slice_range rows at end) = subst (λ (l : List Row). AreFit kinds l) (up-to rows at end low) (both-parts (Fits kinds) (take end rows) (drop end rows) whole).0 in
    (both-parts (Fits kinds) (take at rows) (slice_range rows at end) front).1

pub batch-fits : (kinds : List Kind) (rows batch : List Row) (at end : ℕ) → batch ≡ slice_range rows at end → AreFit kinds rows → at ≤ end → AreFit kinds batch
batch-fits kinds rows batch at end is fit low = subst (λ (l : List Row). AreFit kinds l) (sym is) (some-fit kinds rows at end low fit)

pub takes-range : (kinds : List Kind) (rows batch : List Row) (at end : ℕ) (x y z : LineState) → batch ≡ slice_range rows at end → Takes kinds (take at rows) x y → Takes kinds batch y z → at ≤ end → Takes kinds (take end rows) x z
takes-range kinds rows batch at end x y z is f g low =
    subst (λ (l : List Row). Takes kinds l x z) (sym (up-to rows at end low)) (takes-more kinds (take at rows) (slice_range rows at end) x y z f (subst (λ (l : List Row). Takes kinds l y z) is g))

pub takes-whole : (kinds : List Kind) (rows : List Row) (at : ℕ) (x y : LineState) → Takes kinds (take at rows) x y → length rows ≤ at → Takes kinds rows x y
takes-whole kinds rows at x y f past = subst (λ (l : List Row). Takes kinds l x y) (take_all at rows past) f

module _ {S : Type 0} (faults given : S → ℕ) (sound : S → Type 0) (told : Type 0) (kinds : List Kind) where
  pub given-none : (a : S) → given a < 2 ^ 64 → GoesOnGiving faults given sound 0 a a
  given-none a low = record { later = omega arith; steady = λ s. refl; stays_sound = λ s. s; gave = by (given a) low }
    where
      by : (n : ℕ) → n < 2 ^ 64 → n ≡ min (n + 0) (2 ^ 64 - 1)
      by n low = omega arith

  -- nothing was read yet
  pub fed-none : (left : List Row) (unread : ℕ) (a : S) (line : LineState) → CanTake kinds line → Fed faults given sound told kinds left left unread unread a a line line
  fed-none left unread a line can = record {
    rows = [];
    gave = 0;
    fit = tt;
    rows_are = λ t. refl;
    reads_are = λ t. omega arith;
    goes_on = given-none a;
    takes = takes-none kinds line;
    can_take = can;
  }

  -- rows that come from no store
  pub fed-rows : (rows : List Row) (a : S) (x y : LineState) → AreFit kinds rows → Takes kinds rows x y → CanTake kinds y → Fed faults given sound told kinds rows [] 0 0 a a x y
  fed-rows rows a x y fit takes can = record {
    rows = rows;
    gave = 0;
    fit = fit;
    rows_are = λ t. sym (append-nil rows);
    reads_are = λ t. refl;
    goes_on = given-none a;
    takes = takes;
    can_take = can;
  }

  low-after : (n : ℕ) (a b : S) → GoesOnGiving faults given sound n a b → given b < 2 ^ 64
  low-after n a b g = by (given a) (given b) n g.gave
    where
      by : (k m n : ℕ) → m ≡ min (k + n) (2 ^ 64 - 1) → m < 2 ^ 64
      by k m n e = omega arith

  pub goes-more : (m n : ℕ) (a b c : S) → (given a < 2 ^ 64 → GoesOnGiving faults given sound m a b) → (given b < 2 ^ 64 → GoesOnGiving faults given sound n b c) → given a < 2 ^ 64 → GoesOnGiving faults given sound (m + n) a c
  goes-more m n a b c f g low = let first : GoesOnGiving faults given sound m a b = f low in giving_more faults given sound m n a b c first (g (low-after m a b first))

  -- what is read next
  pub fed-step : (all mid piece left : List Row) (total m n l : ℕ) (a b c : S) (x y z : LineState) → Fed faults given sound told kinds all mid total m a b x y → Fed faults given sound told kinds piece [] n 0 b c y z
      → (told → mid ≡ piece ++ left) → (told → m ≡ n + l) → Fed faults given sound told kinds all left total l a c x z
  fed-step all mid piece left total m n l a b c x y z f g rows reads = record {
    rows = f.rows ++ g.rows;
    gave = f.gave + g.gave;
    fit = joined-parts (Fits kinds) f.rows g.rows f.fit g.fit;
    rows_are = λ t. f.rows_are t ∙ ap (λ r. f.rows ++ r) (rows t ∙ ap (λ r. r ++ left) (g.rows_are t ∙ append-nil g.rows)) ∙ sym (append_assoc f.rows g.rows left);
    reads_are = λ t. sums total f.gave m n l g.gave (f.reads_are t) (reads t) (g.reads_are t);
    goes_on = goes-more f.gave g.gave a b c f.goes_on g.goes_on;
    takes = takes-more kinds f.rows g.rows x y z f.takes g.takes;
    can_take = g.can_take;
  }
    where
      sums : (total f m n l g : ℕ) → total ≡ f + m → m ≡ n + l → n ≡ g + 0 → total ≡ (f + g) + l
      sums total f m n l g e h k = omega arith

  -- one part and then another
  pub fed-both : (first next : List Row) (m n : ℕ) (a b c : S) (x y z : LineState) → Fed faults given sound told kinds first [] m 0 a b x y → Fed faults given sound told kinds next [] n 0 b c y z
      → Fed faults given sound told kinds (first ++ next) [] (m + n) 0 a c x z
  fed-both first next m n a b c x y z f g = record {
    rows = f.rows ++ g.rows;
    gave = f.gave + g.gave;
    fit = joined-parts (Fits kinds) f.rows g.rows f.fit g.fit;
    rows_are = λ t. (λ i. (f.rows_are t ∙ append-nil f.rows) i ++ (g.rows_are t ∙ append-nil g.rows) i) ∙ sym (append-nil (f.rows ++ g.rows));
    reads_are = λ t. sums m n f.gave g.gave (f.reads_are t) (g.reads_are t);
    goes_on = goes-more f.gave g.gave a b c f.goes_on g.goes_on;
    takes = takes-more kinds f.rows g.rows x y z f.takes g.takes;
    can_take = g.can_take;
  }
    where
      sums : (m n f g : ℕ) → m ≡ f + 0 → n ≡ g + 0 → m + n ≡ (f + g) + 0
      sums m n f g e h = omega arith

  -- the same of other spellings, where more is told
  pub fed-as : (now : Type 0) (first next : List Row) (m n : ℕ) (a b : S) (x y : LineState) → (now → told) → (now → next ≡ first) → (now → n ≡ m) → Fed faults given sound told kinds first [] m 0 a b x y → Fed faults given sound now kinds next [] n 0 a b x y
  fed-as now first next m n a b x y more rows reads f = record {
    rows = f.rows;
    gave = f.gave;
    fit = f.fit;
    rows_are = λ t. rows t ∙ f.rows_are (more t);
    reads_are = λ t. reads t ∙ f.reads_are (more t);
    goes_on = f.goes_on;
    takes = f.takes;
    can_take = f.can_take;
  }

-- files that are read one after another
module _ {S : Type 0} (faults given : S → ℕ) (sound : S → Type 0) (told : Type 0) (kinds : List Kind) (tests : List ColumnTest) where
  abbrev pub FedFiles : List (List ℕ) → S → S → LineState → LineState → Type 0
  FedFiles files a b x y = Fed faults given sound told kinds (flat_map (kept_rows tests kinds) files) [] (sum_by (read_sum tests kinds) files) 0 a b x y

  pub fed-cons : (file : List ℕ) (files : List (List ℕ)) (a b c : S) (x y z : LineState) → Fed faults given sound told kinds (kept_rows tests kinds file) [] (read_sum tests kinds file) 0 a b x y → FedFiles files b c y z → FedFiles (file ∷ files) a c x z
  fed-cons file files a b c x y z f g =
      fed-as faults given sound told kinds told (kept_rows tests kinds file ++ flat_map (kept_rows tests kinds) files) (flat_map (kept_rows tests kinds) (file ∷ files)) (read_sum tests kinds file + sum_by (read_sum tests kinds) files) (sum_by (read_sum tests kinds) (file ∷ files)) a c x z
      (λ t. t) (λ t. refl) (λ t. sum_by-cons (read_sum tests kinds) file files)
      (fed-both faults given sound told kinds (kept_rows tests kinds file) (flat_map (kept_rows tests kinds) files) (read_sum tests kinds file) (sum_by (read_sum tests kinds) files) a b c x y z f g)

  pub fed-append : (first next : List (List ℕ)) (a b c : S) (x y z : LineState) → FedFiles first a b x y → FedFiles next b c y z → FedFiles (first ++ next) a c x z
  fed-append first next a b c x y z f g =
      fed-as faults given sound told kinds told (flat_map (kept_rows tests kinds) first ++ flat_map (kept_rows tests kinds) next) (flat_map (kept_rows tests kinds) (first ++ next)) (sum_by (read_sum tests kinds) first + sum_by (read_sum tests kinds) next) (sum_by (read_sum tests kinds) (first ++ next)) a c x z
      (λ t. t) (λ t. flat_map-append (kept_rows tests kinds) first next) (λ t. sum_by-append (read_sum tests kinds) first next)
      (fed-both faults given sound told kinds (flat_map (kept_rows tests kinds) first) (flat_map (kept_rows tests kinds) next) (sum_by (read_sum tests kinds) first) (sum_by (read_sum tests kinds) next) a b c x y z f g)

  pub fed-one : (file : List ℕ) (a b : S) (x y : LineState) → Fed faults given sound told kinds (kept_rows tests kinds file) [] (read_sum tests kinds file) 0 a b x y → FedFiles (file ∷ []) a b x y
  fed-one file a b x y f =
      fed-as faults given sound told kinds told (kept_rows tests kinds file) (kept_rows tests kinds file ++ []) (read_sum tests kinds file) (sum_by (read_sum tests kinds) (file ∷ [])) a b x y
      (λ t. t) (λ t. append-nil (kept_rows tests kinds file)) (λ t. sum_by-cons (read_sum tests kinds) file [] ∙ (let e : read_sum tests kinds file + 0 ≡ read_sum tests kinds file = omega arith in e)) f

-- the files of the buckets from one on
pub more-buckets : (lanes : List (List (Option SealState))) (h : HeldState) (t n : ℕ) → n < 16 → buckets_files lanes h t n ≡ given_files lanes h t n ++ buckets_files lanes h t (n + 1)
more-buckets lanes h t n low = let e : 16 - n ≡ suc (16 - (n + 1)) = omega arith in ap (λ k. flat_map (given_files lanes h t) (range_with_len n k)) e

-- the rows that a cursor adds fit its kinds
pub passed-fit : (init cur next : CursorState) (head : BlockHead) (old rows : List Row) → cur ≡ record init { at = cur.at; left = cur.left } → old ≡ [] → HasPassed cur next head old rows → AreFit init.kinds rows
passed-fit init cur next head old rows same none passed =
    subst (λ (l : List Row). AreFit init.kinds l) (sym (passed.added ∙ ap (λ (l : List Row). l ++ passed.found) none))
    (each-of (Fits init.kinds) passed.found (subst (λ (k : List Kind). All (Fits k) passed.found) (ap (λ (s : CursorState). s.kinds) same) passed.fit))

-- the blocks that a cursor passes
module _ {S : Type 0} (faults given : S → ℕ) (sound : S → Type 0) (init : CursorState) where
  -- what a cursor passed that stands before these bytes
  abbrev pub FedTo : List ℕ → S → S → LineState → LineState → Type 0
  FedTo left a b x y = Fed faults given sound (IsTrue init.told) init.kinds (kept_rows init.tests init.kinds init.left) (kept_rows init.tests init.kinds left) (read_sum init.tests init.kinds init.left) (read_sum init.tests init.kinds left) a b x y

  -- a block more
  pub fed-block : (cur next : CursorState) (head : BlockHead) (old rows : List Row) (a b c : S) (x y z : LineState) → cur ≡ record init { at = cur.at; left = cur.left } → old ≡ [] → HasPassed cur next head old rows
      → GoesOnGiving faults given sound (read_length cur.tests head) b c → ((kinds : List Kind) → AreFit kinds rows → Takes kinds rows y z) → ((kinds : List Kind) → AreFit kinds rows → CanTake kinds y → CanTake kinds z)
      → FedTo cur.left a b x y → FedTo next.left a c x z
  fed-block cur next head old rows a b c x y z same none passed gave takes can fed =
      fed-step faults given sound (IsTrue init.told) init.kinds (kept_rows init.tests init.kinds init.left) (kept_rows init.tests init.kinds cur.left) rows (kept_rows init.tests init.kinds next.left)
      (read_sum init.tests init.kinds init.left) (read_sum init.tests init.kinds cur.left) (read_length cur.tests head) (read_sum init.tests init.kinds next.left) a b c x y z fed piece goes reads
    where
      told-is : cur.told ≡ init.told
      told-is = ap (λ (s : CursorState). s.told) same

      kinds-is : cur.kinds ≡ init.kinds
      kinds-is = ap (λ (s : CursorState). s.kinds) same

      tests-is : cur.tests ≡ init.tests
      tests-is = ap (λ (s : CursorState). s.tests) same

      rows-are : rows ≡ passed.found
      rows-are = passed.added ∙ ap (λ l. l ++ passed.found) none

      told-now : IsTrue init.told → IsTrue cur.told
      told-now t = told-is ∙ t

      fit : AreFit init.kinds rows
      fit = passed-fit init cur next head old rows same none passed

      piece : Fed faults given sound (IsTrue init.told) init.kinds rows [] (read_length cur.tests head) 0 b c y z
      piece = record {
        rows = rows;
        gave = read_length cur.tests head;
        fit = fit;
        rows_are = λ t. sym (append-nil rows);
        reads_are = λ t. omega arith;
        goes_on = λ low. gave;
        takes = takes init.kinds fit;
        can_take = can init.kinds fit fed.can_take;
      }

      goes : IsTrue init.told → kept_rows init.tests init.kinds cur.left ≡ rows ++ kept_rows init.tests init.kinds next.left
      goes t = sym (λ i. kept_rows (tests-is i) (kinds-is i) cur.left) ∙ passed.rows (told-now t) ∙ (λ i. sym rows-are i ++ kept_rows (tests-is i) (kinds-is i) next.left)

      reads : IsTrue init.told → read_sum init.tests init.kinds cur.left ≡ read_length cur.tests head + read_sum init.tests init.kinds next.left
      reads t = sym (λ i. read_sum (tests-is i) (kinds-is i) cur.left) ∙ passed.reads (told-now t) ∙ (λ i. read_length cur.tests head + read_sum (tests-is i) (kinds-is i) next.left)

  -- no block is left
  pub fed-end : (left : List ℕ) (a b : S) (x y : LineState) → left ≡ [] → FedTo left a b x y → Fed faults given sound (IsTrue init.told) init.kinds (kept_rows init.tests init.kinds init.left) [] (read_sum init.tests init.kinds init.left) 0 a b x y
  fed-end left a b x y none fed = subst (λ (l : List ℕ). FedTo l a b x y) none fed
