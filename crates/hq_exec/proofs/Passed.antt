-- Blocks that are skipped have no row at which the Filter's condition is true.
use Rattle.std.proofs.Common.{◌≡◌, ◌∙◌, ℕ, Bool, true, false, cond, not, ◌||◌, ◌&&◌, List, [], ◌∷◌, ◌++◌, get_or, Option, Some, None, refl, sym, ap, subst}
use Rattle.std.specs.Prelude.{filter, flat_map, slice_get}
use Rattle.std.specs.List.{AllByRecursion, list_all}
use Rattle.std.proofs.lemmas.Grind.{flat_map-append}
use Rattle.std.proofs.lemmas.List.Elements.{filter-append}
use Rattle.std.proofs.lemmas.List.Folds.{list_all-append}
use Rattle.std.proofs.lemmas.Option.{unwrap_or-slice_get}
use Rattle.hq_value.specs.declared.value.Value.{Value}
use Rattle.hq_value.specs.declared.value.Value.TheVariants as value
use Rattle.hq_value.specs.declared.kind.Kind.{Kind}
use Rattle.hq_value.specs.declared.operator.CompareKind.{CompareKind}
use Rattle.hq_value.specs.Compare.{passes}
use Rattle.hq_value.specs.Order.{value_cmp}
use Rattle.hq_block.specs.declared.skip.ColumnTest.{ColumnTest}
use Rattle.hq_block.specs.Bounds as block
use Rattle.hq_block.specs.Skipping.{passes_test}
use Rattle.hq_algebra.specs.declared.expr.Expr.{Expr, Row_of-Expr, end_of-Expr, more_of-Expr}
use Rattle.hq_algebra.specs.declared.expr.Expr.TheVariants as expr
use Rattle.hq_algebra.specs.declared.op.Op.{Op, Row_of-Op, end_of-Op, more_of-Op}
use Rattle.hq_algebra.specs.declared.op.Op.TheVariants as op
use Rattle.hq_algebra.specs.Eval.{eval, only, column, or_null, is_true, is_true_at}
use Rattle.hq_algebra.specs.Outcome.{Outcome, Is, Fault, of_two_values}
use Rattle.hq_algebra.specs.Steps.{and_of, compare_of, is_null}
use Rattle.hq_laws.specs.Sources.{only_column, only_literal}
use Rattle.hq_laws.specs.Tests.{members, members_in, is_ranged}
use Rattle.hq_lane.specs.FileBlocks.{kept_rows, passing, passes_all}
use Rattle.hq_lane.specs.Scans.{IsFile}
use Rattle.hq_lane.proofs.FileBlocks.{all_passing, all_rows, their_rows}
use Rattle.hq_meaning.specs.Operators.{filtered, projected, project_faults, joined, partial, partial_faults, final, final_faults, distinct, sorted}
use Rattle.hq_meaning.specs.Rows.{Row}
use Rattle.hq_ops.specs.Pipes.{gives, fails}
use Rattle.hq_exec.specs.Builds.{kept_at, rows_at, leaf_kept, leaf_rows}
use Rattle.hq_exec.specs.Files.{HeldState, kinds_in, files_of, file_rows, kept_in, table_rows, sent_rows}
use Rattle.hq_exec.specs.Skips.{test_on, test_of, tests_in, tests_under}
use Rattle.hq_exec.specs.Stages.{Stage, flowed, faulted, behind, leaf_of, leaf_in, above_of, above_in, stages_of, stages_in, first_of, others_of}
use Rattle.hq_exec.proofs.Meaning.{flowed-behind, faulted-behind}

both-true : (a b : Bool) → (a && b) ≡ true → (a ≡ true) × (b ≡ true)
both-true true true e = (refl, refl)
both-true true false e = cc
both-true false b e = cc

and-so : (a b : Bool) → a ≡ true → b ≡ true → (a && b) ≡ true
and-so a b e f = λ i. e i && f i

-- where an AND is true, both sides are
and-true : (o p : Outcome) → is_true (or_null (of_two_values and_of o p)) ≡ true → (is_true (or_null o) ≡ true) × (is_true (or_null p) ≡ true)
and-true Fault p e = cc
and-true (Is a) Fault e = cc
and-true (Is a) (Is b) e = by a b e
  where
    by : (a b : Value) → is_true (and_of a b) ≡ true → (is_true a ≡ true) × (is_true b ≡ true)
    by (value.Bool true) (value.Bool true) e = (refl, refl)
    by (value.Bool true) (value.Bool false) e = cc
    by (value.Bool true) value.Null e = cc
    by (value.Bool true) (value.Int n) e = cc
    by (value.Bool true) (value.Text s) e = cc
    by (value.Bool false) b e = cc
    by value.Null value.Null e = cc
    by value.Null (value.Bool true) e = cc
    by value.Null (value.Bool false) e = cc
    by value.Null (value.Int n) e = cc
    by value.Null (value.Text s) e = cc
    by (value.Int m) value.Null e = cc
    by (value.Int m) (value.Bool true) e = cc
    by (value.Int m) (value.Bool false) e = cc
    by (value.Int m) (value.Int n) e = cc
    by (value.Int m) (value.Text s) e = cc
    by (value.Text t) value.Null e = cc
    by (value.Text t) (value.Bool true) e = cc
    by (value.Text t) (value.Bool false) e = cc
    by (value.Text t) (value.Int n) e = cc
    by (value.Text t) (value.Text s) e = cc

-- where a comparison is true, a value that is compared is not NULL and the comparison holds
compare-true : (how : CompareKind) (a v : Value) → is_true (compare_of how a v) ≡ true → (block.is_null a ≡ false) × (passes how (value_cmp a v) ≡ true)
compare-true how value.Null v e = cc
compare-true how (value.Bool a) value.Null e = cc
compare-true how (value.Bool a) (value.Bool b) e = (refl, e)
compare-true how (value.Bool a) (value.Int n) e = (refl, e)
compare-true how (value.Bool a) (value.Text t) e = (refl, e)
compare-true how (value.Int m) value.Null e = cc
compare-true how (value.Int m) (value.Bool b) e = (refl, e)
compare-true how (value.Int m) (value.Int n) e = (refl, e)
compare-true how (value.Int m) (value.Text t) e = (refl, e)
compare-true how (value.Text s) value.Null e = cc
compare-true how (value.Text s) (value.Bool b) e = (refl, e)
compare-true how (value.Text s) (value.Int n) e = (refl, e)
compare-true how (value.Text s) (value.Text t) e = (refl, e)

module _ (kinds : List Kind) (row : Row) where
  test-passes : (how : CompareKind) (place : ℕ) (v : Value) → is_true (compare_of how (column row place) v) ≡ true → passes_test (record { column = place; compare = how; value = v }) row ≡ true
  test-passes how place v e =
      let same : column row place ≡ block.value_at row place = unwrap_or-slice_get row place value.Null in
      let now : is_true (compare_of how (block.value_at row place) v) ≡ true = ap (λ a. is_true (compare_of how a v)) (sym same) ∙ e in
      let parts : (block.is_null (block.value_at row place) ≡ false) × (passes how (value_cmp (block.value_at row place) v) ≡ true) = compare-true how (block.value_at row place) v now in
      and-so _ _ (ap not parts.0) parts.1

  one-passes : (how : CompareKind) (place : ℕ) (v : Value) → is_true (compare_of how (column row place) v) ≡ true → list_all (λ test. passes_test test row) (test_on kinds how (Some place) (Some v)) ≡ true
  one-passes how place v e = by (is_ranged (slice_get kinds place) && not (is_null v))
    where
      by : (b : Bool) → list_all (λ test. passes_test test row) (cond b (record { column = place; compare = how; value = v } ∷ []) []) ≡ true
      by true = and-so _ _ (test-passes how place v e) refl
      by false = refl

  compared : {m : _} {n : _} (how : CompareKind) (left : Row_of-Expr m) (right : Row_of-Expr n) → is_true (or_null (of_two_values (compare_of how) (only left row) (only right row))) ≡ true
      → list_all (λ test. passes_test test row) (test_on kinds how (only_column left) (only_literal right)) ≡ true
  compared how end_of-Expr right e = refl
  compared how (more_of-Expr (expr.Column place) rest) end_of-Expr e = refl
  compared how (more_of-Expr (expr.Column place) rest) (more_of-Expr (expr.Literal v) others) e = one-passes how place v e
  compared how (more_of-Expr (expr.Column place) rest) (more_of-Expr (expr.Column q) others) e = refl
  compared how (more_of-Expr (expr.Column place) rest) (more_of-Expr (expr.Arith' k p l q r) others) e = refl
  compared how (more_of-Expr (expr.Column place) rest) (more_of-Expr (expr.Compare' k p l q r) others) e = refl
  compared how (more_of-Expr (expr.Column place) rest) (more_of-Expr (expr.And' p l q r) others) e = refl
  compared how (more_of-Expr (expr.Column place) rest) (more_of-Expr (expr.Or' p l q r) others) e = refl
  compared how (more_of-Expr (expr.Column place) rest) (more_of-Expr (expr.Not' p l) others) e = refl
  compared how (more_of-Expr (expr.Column place) rest) (more_of-Expr (expr.IsNull' p l) others) e = refl
  compared how (more_of-Expr (expr.Literal v) rest) right e = refl
  compared how (more_of-Expr (expr.Arith' k p l q r) rest) right e = refl
  compared how (more_of-Expr (expr.Compare' k p l q r) rest) right e = refl
  compared how (more_of-Expr (expr.And' p l q r) rest) right e = refl
  compared how (more_of-Expr (expr.Or' p l q r) rest) right e = refl
  compared how (more_of-Expr (expr.Not' p l) rest) right e = refl
  compared how (more_of-Expr (expr.IsNull' p l) rest) right e = refl

  both-pass : (xs ys : List Expr) → list_all (λ test. passes_test test row) (flat_map (test_of kinds) xs) ≡ true → list_all (λ test. passes_test test row) (flat_map (test_of kinds) ys) ≡ true
      → list_all (λ test. passes_test test row) (flat_map (test_of kinds) (xs ++ ys)) ≡ true
  both-pass xs ys e f = ap (list_all (λ test. passes_test test row)) (flat_map-append (test_of kinds) xs ys) ∙ list_all-append (λ test. passes_test test row) (flat_map (test_of kinds) xs) (flat_map (test_of kinds) ys) ∙ and-so _ _ e f

  -- a list of tests of one part
  alone : (tests : List ColumnTest) → list_all (λ test. passes_test test row) tests ≡ true → list_all (λ test. passes_test test row) (tests ++ []) ≡ true
  alone tests e = list_all-append (λ test. passes_test test row) tests [] ∙ and-so _ _ e refl

  mutual
    tests-pass : (c : Expr) → is_true_at c row ≡ true → list_all (λ test. passes_test test row) (tests_in kinds c) ≡ true
    tests-pass (expr.Column place) e = refl
    tests-pass (expr.Literal v) e = refl
    tests-pass (expr.Arith' k p l q r) e = refl
    tests-pass (expr.Compare' how p left q right) e = alone (test_on kinds how (only_column left) (only_literal right)) (compared how left right e)
    tests-pass (expr.And' p left q right) e =
        let parts : (is_true (or_null (only left row)) ≡ true) × (is_true (or_null (only right row)) ≡ true) = and-true (only left row) (only right row) e in
        both-pass (members_in left) (members_in right) (tests-pass-in left parts.0) (tests-pass-in right parts.1)
    tests-pass (expr.Or' p l q r) e = refl
    tests-pass (expr.Not' p l) e = refl
    tests-pass (expr.IsNull' p l) e = refl

    tests-pass-in : {m : _} (of : Row_of-Expr m) → is_true (or_null (only of row)) ≡ true → list_all (λ test. passes_test test row) (flat_map (test_of kinds) (members_in of)) ≡ true
    tests-pass-in end_of-Expr e = refl
    tests-pass-in (more_of-Expr c rest) e = tests-pass c e

-- a filter behind a weaker one
filter-weaker : (p q : Row → Bool) → ((row : Row) → p row ≡ true → q row ≡ true) → (rows : List Row) → filter p (filter q rows) ≡ filter p rows
filter-weaker p q weaker [] = refl
filter-weaker p q weaker (r ∷ rows) = by (filter-weaker p q weaker rows) (q r) (p r) refl refl
  where
    by : filter p (filter q rows) ≡ filter p rows → (b c : Bool) → q r ≡ b → p r ≡ c → filter p (cond (q r) (r ∷ filter q rows) (filter q rows)) ≡ cond (p r) (r ∷ filter p rows) (filter p rows)
    by more true c e f = ap (λ x. filter p (cond x (r ∷ filter q rows) (filter q rows))) e ∙ ap (λ l. cond (p r) (r ∷ l) l) more
    by more false true e f = let no : false ≡ true = sym e ∙ weaker r f in absurd cc
    by more false false e f = ap (λ x. filter p (cond x (r ∷ filter q rows) (filter q rows))) e ∙ more ∙ ap (λ x. cond x (r ∷ filter p rows) (filter p rows)) (sym f)

-- the same rows of a file are left
kept-filtered : (kinds : List Kind) (c : Expr) (tests : List ColumnTest) (bytes : List ℕ) → ((row : Row) → is_true_at c row ≡ true → passes_all tests row ≡ true) → IsFile kinds bytes → filtered c (kept_rows tests kinds bytes) ≡ filtered c (file_rows kinds bytes)
kept-filtered kinds c tests bytes weaker file =
    sym (filter-weaker (is_true_at c) (passes_all tests) weaker (kept_rows tests kinds bytes)) ∙ ap (filter (is_true_at c)) (all_passing tests kinds bytes file.0 file.1)
    ∙ filter-weaker (is_true_at c) (passes_all tests) weaker file.0 ∙ ap (filter (is_true_at c)) (sym (their_rows kinds bytes file.0 file.1))

kept-all : (kinds : List Kind) (bytes : List ℕ) → IsFile kinds bytes → kept_rows [] kinds bytes ≡ file_rows kinds bytes
kept-all kinds bytes file = all_rows kinds bytes file.0 file.1 ∙ sym (their_rows kinds bytes file.0 file.1)

files-kept : (kinds : List Kind) (files : List (List ℕ)) → AllByRecursion (IsFile kinds) files → flat_map (kept_rows [] kinds) files ≡ flat_map (file_rows kinds) files
files-kept kinds [] all = refl
files-kept kinds (f ∷ files) all = λ i. kept-all kinds f all.0 i ++ files-kept kinds files all.1 i

files-filtered : (kinds : List Kind) (c : Expr) (tests : List ColumnTest) → ((row : Row) → is_true_at c row ≡ true → passes_all tests row ≡ true) → (files : List (List ℕ)) → AllByRecursion (IsFile kinds) files
    → filtered c (flat_map (kept_rows tests kinds) files) ≡ filtered c (flat_map (file_rows kinds) files)
files-filtered kinds c tests weaker [] all = refl
files-filtered kinds c tests weaker (f ∷ files) all =
    filter-append (is_true_at c) (kept_rows tests kinds f) (flat_map (kept_rows tests kinds) files) ∙ (λ i. kept-filtered kinds c tests f weaker all.0 i ++ files-filtered kinds c tests weaker files all.1 i)
    ∙ sym (filter-append (is_true_at c) (file_rows kinds f) (flat_map (file_rows kinds) files))

-- the files of a scanned table are blocks of its kinds
abbrev pub LeafStands : HeldState → Op → Type 0
LeafStands h (op.Scan table kinds) = AllByRecursion (IsFile (kinds_in h table)) (files_of h table)
LeafStands h _ = Unit {0}

-- the same rows are left of both
abbrev SameUnder : Option Expr → List Row → List Row → Type 0
SameUnder None kept rows = kept ≡ rows
SameUnder (Some c) kept rows = filtered c kept ≡ filtered c rows

same-under : (above : Option Expr) (kept rows : List Row) → kept ≡ rows → SameUnder above kept rows
same-under None kept rows e = e
same-under (Some c) kept rows e = ap (filtered c) e

module _ (h : HeldState) where
  scan-kept : (table : ℕ) (kinds : List Kind) (above : Option Expr) → AllByRecursion (IsFile (kinds_in h table)) (files_of h table) → SameUnder above (kept_in (tests_under kinds above) h table) (table_rows h table)
  scan-kept table kinds None all = files-kept (kinds_in h table) (files_of h table) all
  scan-kept table kinds (Some c) all = files-filtered (kinds_in h table) c (tests_in kinds c) (λ row e. tests-pass kinds row c e) (files_of h table) all

  -- the rows of the leaf that are kept, and all of them
  abbrev kept-leaf : {m : _} → Op → Option Expr → Row_of-Op m → List Row
  kept-leaf outer above input = kept_at (leaf_in outer input) (above_in input above) h

  abbrev full-leaf : {m : _} → Op → Row_of-Op m → List Row
  full-leaf outer input = rows_at (leaf_in outer input) h

  -- an operator behind others that give the same
  step : (ss : List Stage) (o : Op) (build kept rows : List Row) (above : Option Expr) → flowed ss kept ≡ flowed ss rows → SameUnder above (flowed (behind ss o build) kept) (flowed (behind ss o build) rows)
  step ss o build kept rows above e = same-under above (flowed (behind ss o build) kept) (flowed (behind ss o build) rows) (flowed-behind ss o build kept ∙ ap (gives o build) e ∙ sym (flowed-behind ss o build rows))

  filter-step : (ss : List Stage) (o : Op) (c : Expr) (kept rows : List Row) (above : Option Expr) → ((l : List Row) → gives o [] l ≡ filtered c l) → filtered c (flowed ss kept) ≡ filtered c (flowed ss rows) → SameUnder above (flowed (behind ss o []) kept) (flowed (behind ss o []) rows)
  filter-step ss o c kept rows above is e =
      same-under above (flowed (behind ss o []) kept) (flowed (behind ss o []) rows) (flowed-behind ss o [] kept ∙ is (flowed ss kept) ∙ e ∙ sym (is (flowed ss rows)) ∙ sym (flowed-behind ss o [] rows))

  mutual
    pub kept-flows : (o : Op) (builds : List (List Row)) (above : Option Expr) → LeafStands h (leaf_of o) → SameUnder above (flowed (stages_of o builds) (kept_at (leaf_of o) (above_of o above) h)) (flowed (stages_of o builds) (rows_at (leaf_of o) h))
    kept-flows (op.Scan table kinds) builds above all = scan-kept table kinds above all
    kept-flows (op.Receive slice kinds) builds above all = same-under above (sent_rows h slice) (sent_rows h slice) refl
    kept-flows (op.Filter' c p input) builds above all = filter-step (stages_in input builds) (op.Filter' c p input) c (kept-leaf (op.Filter' c p input) (Some c) input) (full-leaf (op.Filter' c p input) input) above (λ l. refl) (kept-flows-in (op.Filter' c p input) (Some c) refl input builds all)
    kept-flows (op.Project' items p input) builds above all = step (stages_in input builds) (op.Project' items p input) [] (kept-leaf (op.Project' items p input) None input) (full-leaf (op.Project' items p input) input) above (kept-flows-in (op.Project' items p input) None refl input builds all)
    kept-flows (op.Join' lk rk p left q right) builds above all = step (stages_in left (others_of builds)) (op.Join' lk rk p left q right) (first_of builds) (kept-leaf (op.Join' lk rk p left q right) None left) (full-leaf (op.Join' lk rk p left q right) left) above (kept-flows-in (op.Join' lk rk p left q right) None refl left (others_of builds) all)
    kept-flows (op.Partial' keys aggs p input) builds above all = step (stages_in input builds) (op.Partial' keys aggs p input) [] (kept-leaf (op.Partial' keys aggs p input) None input) (full-leaf (op.Partial' keys aggs p input) input) above (kept-flows-in (op.Partial' keys aggs p input) None refl input builds all)
    kept-flows (op.Final' n aggs p input) builds above all = step (stages_in input builds) (op.Final' n aggs p input) [] (kept-leaf (op.Final' n aggs p input) None input) (full-leaf (op.Final' n aggs p input) input) above (kept-flows-in (op.Final' n aggs p input) None refl input builds all)
    kept-flows (op.Distinct' p input) builds above all = step (stages_in input builds) (op.Distinct' p input) [] (kept-leaf (op.Distinct' p input) None input) (full-leaf (op.Distinct' p input) input) above (kept-flows-in (op.Distinct' p input) None refl input builds all)
    kept-flows (op.Sort' order limit p input) builds above all = step (stages_in input builds) (op.Sort' order limit p input) [] (kept-leaf (op.Sort' order limit p input) None input) (full-leaf (op.Sort' order limit p input) input) above (kept-flows-in (op.Sort' order limit p input) None refl input builds all)

    kept-flows-in : {m : _} (outer : Op) (above : Option Expr) → kept_at outer above h ≡ rows_at outer h → (input : Row_of-Op m) (builds : List (List Row)) → LeafStands h (leaf_in outer input)
        → SameUnder above (flowed (stages_in input builds) (kept_at (leaf_in outer input) (above_in input above) h)) (flowed (stages_in input builds) (rows_at (leaf_in outer input) h))
    kept-flows-in outer above none end_of-Op builds all = same-under above (kept_at outer above h) (rows_at outer h) none
    kept-flows-in outer above none (more_of-Op child rest) builds all = kept-flows child builds above all

  -- the faults are the same
  fault-step : (ss : List Stage) (o : Op) (build kept rows : List Row) → faulted ss kept ≡ faulted ss rows → fails o (flowed ss kept) ≡ fails o (flowed ss rows) → faulted (behind ss o build) kept ≡ faulted (behind ss o build) rows
  fault-step ss o build kept rows e f = faulted-behind ss o build kept ∙ (λ i. e i || f i) ∙ sym (faulted-behind ss o build rows)

  mutual
    pub kept-faults : (o : Op) (builds : List (List Row)) (above : Option Expr) → LeafStands h (leaf_of o) → faulted (stages_of o builds) (kept_at (leaf_of o) (above_of o above) h) ≡ faulted (stages_of o builds) (rows_at (leaf_of o) h)
    kept-faults (op.Scan table kinds) builds above all = refl
    kept-faults (op.Receive slice kinds) builds above all = refl
    kept-faults (op.Filter' c p input) builds above all = fault-step (stages_in input builds) (op.Filter' c p input) [] (kept-leaf (op.Filter' c p input) (Some c) input) (full-leaf (op.Filter' c p input) input) (kept-faults-in (op.Filter' c p input) (Some c) refl input builds all) refl
    kept-faults (op.Project' items p input) builds above all = fault-step (stages_in input builds) (op.Project' items p input) [] (kept-leaf (op.Project' items p input) None input) (full-leaf (op.Project' items p input) input) (kept-faults-in (op.Project' items p input) None refl input builds all) (ap (project_faults items) (kept-flows-in (op.Project' items p input) None refl input builds all))
    kept-faults (op.Join' lk rk p left q right) builds above all = fault-step (stages_in left (others_of builds)) (op.Join' lk rk p left q right) (first_of builds) (kept-leaf (op.Join' lk rk p left q right) None left) (full-leaf (op.Join' lk rk p left q right) left) (kept-faults-in (op.Join' lk rk p left q right) None refl left (others_of builds) all) refl
    kept-faults (op.Partial' keys aggs p input) builds above all = fault-step (stages_in input builds) (op.Partial' keys aggs p input) [] (kept-leaf (op.Partial' keys aggs p input) None input) (full-leaf (op.Partial' keys aggs p input) input) (kept-faults-in (op.Partial' keys aggs p input) None refl input builds all) (ap (partial_faults aggs) (kept-flows-in (op.Partial' keys aggs p input) None refl input builds all))
    kept-faults (op.Final' n aggs p input) builds above all = fault-step (stages_in input builds) (op.Final' n aggs p input) [] (kept-leaf (op.Final' n aggs p input) None input) (full-leaf (op.Final' n aggs p input) input) (kept-faults-in (op.Final' n aggs p input) None refl input builds all) (ap (final_faults n aggs) (kept-flows-in (op.Final' n aggs p input) None refl input builds all))
    kept-faults (op.Distinct' p input) builds above all = fault-step (stages_in input builds) (op.Distinct' p input) [] (kept-leaf (op.Distinct' p input) None input) (full-leaf (op.Distinct' p input) input) (kept-faults-in (op.Distinct' p input) None refl input builds all) refl
    kept-faults (op.Sort' order limit p input) builds above all = fault-step (stages_in input builds) (op.Sort' order limit p input) [] (kept-leaf (op.Sort' order limit p input) None input) (full-leaf (op.Sort' order limit p input) input) (kept-faults-in (op.Sort' order limit p input) None refl input builds all) refl

    kept-faults-in : {m : _} (outer : Op) (above : Option Expr) → kept_at outer above h ≡ rows_at outer h → (input : Row_of-Op m) (builds : List (List Row)) → LeafStands h (leaf_in outer input)
        → faulted (stages_in input builds) (kept_at (leaf_in outer input) (above_in input above) h) ≡ faulted (stages_in input builds) (rows_at (leaf_in outer input) h)
    kept-faults-in outer above none end_of-Op builds all = refl
    kept-faults-in outer above none (more_of-Op child rest) builds all = kept-faults child builds above all
