-- A plan over columns that are taken means what it does with each Scan replaced by the columns of its table.
use Rattle.std.proofs.Common.{◌≡◌, ℕ, zero, suc, ◌+◌, ◌<◌, ◌≤◌, ◌==◌, Bool, true, false, cond, ◌&&◌, ◌||◌, List, [], ◌∷◌, ◌++◌, drop, length, map, filter, flat_map, Option, Some, None, refl, sym, ◌∙◌, ap, arith}
use Rattle.std.specs.List.{list_any, range_with_len, AllByRecursion}
use Rattle.hq_value.specs.declared.value.Value.{Value}
use Rattle.hq_value.specs.declared.kind.Kind.{Kind}
use Rattle.hq_algebra.specs.declared.expr.Expr.{Expr, Row_of-Expr, end_of-Expr, more_of-Expr}
use Rattle.hq_algebra.specs.declared.expr.Expr.TheVariants as expr
use Rattle.hq_algebra.specs.declared.aggregate.Aggregate.{Aggregate}
use Rattle.hq_algebra.specs.declared.op.SortKey.{SortKey}
use Rattle.hq_algebra.specs.declared.op.Op.{Op, Row_of-Op, end_of-Op, more_of-Op}
use Rattle.hq_algebra.specs.declared.op.Op.TheVariants as op
use Rattle.hq_algebra.specs.declared.op.Op.TheBlock.{hidden-the_row-Op-0}
use Rattle.hq_algebra.specs.declared.plan.Slice.{Slice}
use Rattle.hq_algebra.specs.declared.plan.Plan.{Plan}
use denote.Hole.Carrier.{hidden}
use Rattle.hq_algebra.specs.Steps.{arith_of, compare_of, and_of, or_of, not_of, is_null_of}
use Rattle.hq_algebra.specs.Outcome.{Is, of_one, of_two, of_two_values}
use Rattle.hq_algebra.specs.Eval.{eval, only, column, or_null, is_fault, is_true, value_at, faults_at, is_true_at}
use Rattle.hq_algebra.specs.Plans.{operators, operators_in, received, is_gather}
use Rattle.hq_meaning.specs.Rows.{Row, faults_in}
use Rattle.hq_meaning.specs.Operators.{filtered, projected, project_faults, joined, partial, partial_faults, final, final_faults, distinct, sorted}
use Rattle.hq_meaning.specs.Slices.{Here, rows_of, input_rows, op_faults, input_faults, receives}
use Rattle.hq_meaning.specs.Nodes.{nodes_of, lowest}
use Rattle.hq_meaning.specs.Plans.{Parts, Sent, sent_by, here_at, runs_on, run_slice, run_slices, plan_mean, answer_after}
use Rattle.hq_laws.specs.Spread.{FitKinds}
use Rattle.hq_laws.specs.Turned.{renamed, renamed_in}
use Rattle.hq_laws.proofs.Chains.{IsWide, AllByRecursion-flat_map}
use Rattle.hq_laws.proofs.Lists.{AllByRecursion-All, both_true, eq_means, or_false}
use Rattle.hq_laws.proofs.Regroup.{flat_map-append}
use Rattle.hq_narrow.specs.declared.taken.Taken.{Taken}
use Rattle.hq_narrow.specs.Narrow.{taken_at, place_from, taken_row, taken_parts}
use Rattle.hq_narrow.specs.Widened.{are_all_from, columns_of, under, full, taken_op, widened, widened_in, widened_slice, widened_plan}
use Rattle.hq_narrow.proofs.Taking.{map-flat_map, place-column}

-- an expression over the columns that are taken of a row
module _ (to : ℕ → ℕ) (row taken : Row) (same : (i : ℕ) → column row (to i) ≡ column taken i) where
  mutual
    eval-full : (e : Expr) → eval (renamed to e) row ≡ eval e taken
    eval-full (expr.Column place) = ap Is (same place)
    eval-full (expr.Literal v) = refl
    eval-full (expr.Arith' step p left q right) = λ i. of_two (arith_of step) (only-full left i) (only-full right i)
    eval-full (expr.Compare' test p left q right) = λ i. of_two_values (compare_of test) (only-full left i) (only-full right i)
    eval-full (expr.And' p left q right) = λ i. of_two_values and_of (only-full left i) (only-full right i)
    eval-full (expr.Or' p left q right) = λ i. of_two_values or_of (only-full left i) (only-full right i)
    eval-full (expr.Not' p of) = λ i. of_one not_of (only-full of i)
    eval-full (expr.IsNull' p of) = λ i. of_one is_null_of (only-full of i)

    only-full : {m : _} (of : Row_of-Expr m) → only (renamed_in to of) row ≡ only of taken
    only-full end_of-Expr = refl
    only-full (more_of-Expr e rest) = eval-full e

-- the columns of rows
module _ (columns : List ℕ) where
  values-taken : (cs : List ℕ) (row : Row) → map (λ e. value_at e row) (map expr.Column cs) ≡ taken_row cs row
  values-taken [] row = refl
  values-taken (c ∷ cs) row = ap (λ l. column row c ∷ l) (values-taken cs row)

  projected-taken : (rows : List Row) → projected (map expr.Column columns) rows ≡ map (taken_row columns) rows
  projected-taken rows = λ i. map (λ row. values-taken columns row i) rows

  column-calm : (cs : List ℕ) (row : Row) → list_any (λ e. faults_at e row) (map expr.Column cs) ≡ false
  column-calm [] row = refl
  column-calm (c ∷ cs) row = column-calm cs row

  projected-calm : (rows : List Row) → project_faults (map expr.Column columns) rows ≡ false
  projected-calm [] = refl
  projected-calm (row ∷ rows) = λ i. column-calm columns row i || projected-calm rows i

  -- under a condition
  module _ (n : ℕ) (c : Expr) where
    abbrev wider : Expr
    wider = renamed (place_from columns n) c

    true-taken : (row : Row) → length row ≡ n → is_true_at wider row ≡ is_true_at c (taken_row columns row)
    true-taken row e = λ i. is_true (or_null (eval-full (place_from columns n) row (taken_row columns row) (place-column columns n row e) c i))

    faults-taken : (row : Row) → length row ≡ n → faults_at wider row ≡ faults_at c (taken_row columns row)
    faults-taken row e = λ i. is_fault (eval-full (place_from columns n) row (taken_row columns row) (place-column columns n row e) c i)

    filter-taken : (rows : List Row) → AllByRecursion (IsWide n) rows → map (taken_row columns) (filtered wider rows) ≡ filtered c (map (taken_row columns) rows)
    filter-taken [] all = refl
    filter-taken (row ∷ rows) all =
        ap (λ b. map (taken_row columns) (cond b (row ∷ filtered wider rows) (filtered wider rows))) (true-taken row all.0)
        ∙ by (is_true_at c (taken_row columns row)) (filter-taken rows all.1)
      where
        by : (b : Bool) → map (taken_row columns) (filtered wider rows) ≡ filtered c (map (taken_row columns) rows)
            → map (taken_row columns) (cond b (row ∷ filtered wider rows) (filtered wider rows)) ≡ cond b (taken_row columns row ∷ filtered c (map (taken_row columns) rows)) (filtered c (map (taken_row columns) rows))
        by true rest = ap (λ l. taken_row columns row ∷ l) rest
        by false rest = rest

    some-faults-taken : (rows : List Row) → AllByRecursion (IsWide n) rows → faults_in (wider ∷ []) rows ≡ faults_in (c ∷ []) (map (taken_row columns) rows)
    some-faults-taken [] all = refl
    some-faults-taken (row ∷ rows) all = λ i. (faults-taken row all.0 i || false) || some-faults-taken rows all.1 i

-- all columns in order
pub all-most : (i n : ℕ) (cs : List ℕ) → are_all_from i n cs ≡ true → i ≤ n
all-most i n [] h = let e : i ≡ n = eq_means i n h in omega (arith, e)
all-most i n (c ∷ cs) h = let l : suc i ≤ n = all-most (suc i) n cs (both_true (c == i) _ h).1 in omega (arith, l)

row-next : (row : Row) (i : ℕ) → i < length row → column row i ∷ drop (suc i) row ≡ drop i row
row-next [] i h = absurd (omega (arith, h))
row-next (x ∷ row) zero h = refl
row-next (x ∷ row) (suc i) h = row-next row i (omega (arith, h))

row-past : (row : Row) (i : ℕ) → length row ≤ i → drop i row ≡ []
row-past [] zero h = refl
row-past [] (suc i) h = refl
row-past (x ∷ row) zero h = absurd (omega (arith, h))
row-past (x ∷ row) (suc i) h = row-past row i (omega (arith, h))

all-row : (cs : List ℕ) (i n : ℕ) (row : Row) → are_all_from i n cs ≡ true → length row ≡ n → taken_row cs row ≡ drop i row
all-row [] i n row h e = let f : i ≡ n = eq_means i n h in sym (row-past row i (omega (arith, e, f)))
all-row (c ∷ cs) i n row h e =
    let b : (c == i ≡ true) × (are_all_from (suc i) n cs ≡ true) = both_true (c == i) _ h in
    let l : suc i ≤ n = all-most (suc i) n cs b.1 in
    (λ t. column row (eq_means c i b.0 t) ∷ all-row cs (suc i) n row b.1 e t) ∙ row-next row i (omega (arith, l, e))

all-rows : (cs : List ℕ) (n : ℕ) → are_all_from 0 n cs ≡ true → (rows : List Row) → AllByRecursion (IsWide n) rows → map (taken_row cs) rows ≡ rows
all-rows cs n h [] wide = refl
all-rows cs n h (row ∷ rows) wide = λ t. all-row cs 0 n row h wide.0 t ∷ all-rows cs n h rows wide.1 t

filter-wide : (n : ℕ) (c : Expr) (rows : List Row) → AllByRecursion (IsWide n) rows → AllByRecursion (IsWide n) (filtered c rows)
filter-wide n c [] wide = tt
filter-wide n c (row ∷ rows) wide = by (is_true_at c row) wide.0 (filter-wide n c rows wide.1)
  where
    by : (b : Bool) → IsWide n row → AllByRecursion (IsWide n) (filtered c rows) → AllByRecursion (IsWide n) (cond b (row ∷ filtered c rows) (filtered c rows))
    by true w rest = (w, rest)
    by false w rest = rest

-- by a Project, or as they stand
columns-receive : (b : Bool) (items : List Expr) (x : Op) → receives (cond b x (op.Project items x)) ≡ receives x
unfolding hidden-the_row-Op-0 hidden
columns-receive true items x = refl
columns-receive false items x = refl

columns-rows : (b : Bool) (cs : List ℕ) (x : Op) (here : Here) → (b ≡ true → map (taken_row cs) (rows_of x here) ≡ rows_of x here) → rows_of (cond b x (op.Project (map expr.Column cs) x)) here ≡ map (taken_row cs) (rows_of x here)
unfolding hidden-the_row-Op-0 hidden
columns-rows true cs x here same = sym (same refl)
columns-rows false cs x here same = projected-taken cs (rows_of x here)

columns-calm : (b : Bool) (cs : List ℕ) (x : Op) (here : Here) → op_faults (cond b x (op.Project (map expr.Column cs) x)) here ≡ op_faults x here
unfolding hidden-the_row-Op-0 hidden
columns-calm true cs x here = refl
columns-calm false cs x here = ap (λ d. op_faults x here || d) (projected-calm cs (rows_of x here)) ∙ or_false (op_faults x here)

-- rows under a condition, if there is one, and whether it faults over them
abbrev rows_under : Option Expr → List Row → List Row
rows_under None rows = rows
rows_under (Some c) rows = filtered c rows

abbrev faults_under : Option Expr → Bool → List Row → Bool
faults_under None below rows = below
faults_under (Some c) below rows = below || faults_in (c ∷ []) rows

under-rows : (above : Option Expr) (x : Op) (here : Here) → rows_of (under above x) here ≡ rows_under above (rows_of x here)
unfolding hidden-the_row-Op-0 hidden
under-rows None x here = refl
under-rows (Some c) x here = refl

under-faults : (above : Option Expr) (x : Op) (here : Here) → op_faults (under above x) here ≡ faults_under above (op_faults x here) (rows_of x here)
unfolding hidden-the_row-Op-0 hidden
under-faults None x here = refl
under-faults (Some c) x here = refl

under-receives : (above : Option Expr) (x : Op) → receives (under above x) ≡ receives x
unfolding hidden-the_row-Op-0 hidden
under-receives None x = refl
under-receives (Some c) x = refl

-- each operator over others
module _ (here : Here) (x y : Op) where
  project-rows : (items : List Expr) → rows_of (op.Project items x) here ≡ projected items (rows_of x here)
  unfolding hidden-the_row-Op-0 hidden
  project-rows items = refl

  join-rows : (lk rk : List ℕ) → rows_of (op.Join lk rk x y) here ≡ joined lk rk (rows_of x here) (rows_of y here)
  unfolding hidden-the_row-Op-0 hidden
  join-rows lk rk = refl

  partial-rows : (keys : List ℕ) (aggs : List Aggregate) → rows_of (op.Partial keys aggs x) here ≡ partial keys aggs (rows_of x here)
  unfolding hidden-the_row-Op-0 hidden
  partial-rows keys aggs = refl

  final-rows : (n : ℕ) (aggs : List Aggregate) → rows_of (op.Final n aggs x) here ≡ final n aggs (rows_of x here)
  unfolding hidden-the_row-Op-0 hidden
  final-rows n aggs = refl

  distinct-rows : rows_of (op.Distinct x) here ≡ distinct (rows_of x here)
  unfolding hidden-the_row-Op-0 hidden
  distinct-rows = refl

  sort-rows : (order : List SortKey) (limit : Option ℕ) → rows_of (op.Sort order limit x) here ≡ sorted order limit (rows_of x here)
  unfolding hidden-the_row-Op-0 hidden
  sort-rows order limit = refl

  project-faults : (items : List Expr) → op_faults (op.Project items x) here ≡ (op_faults x here || project_faults items (rows_of x here))
  unfolding hidden-the_row-Op-0 hidden
  project-faults items = refl

  join-faults : (lk rk : List ℕ) → op_faults (op.Join lk rk x y) here ≡ (op_faults x here || op_faults y here)
  unfolding hidden-the_row-Op-0 hidden
  join-faults lk rk = refl

  partial-faults : (keys : List ℕ) (aggs : List Aggregate) → op_faults (op.Partial keys aggs x) here ≡ (op_faults x here || partial_faults aggs (rows_of x here))
  unfolding hidden-the_row-Op-0 hidden
  partial-faults keys aggs = refl

  final-faults : (n : ℕ) (aggs : List Aggregate) → op_faults (op.Final n aggs x) here ≡ (op_faults x here || final_faults n aggs (rows_of x here))
  unfolding hidden-the_row-Op-0 hidden
  final-faults n aggs = refl

  distinct-faults : op_faults (op.Distinct x) here ≡ op_faults x here
  unfolding hidden-the_row-Op-0 hidden
  distinct-faults = refl

  sort-faults : (order : List SortKey) (limit : Option ℕ) → op_faults (op.Sort order limit x) here ≡ op_faults x here
  unfolding hidden-the_row-Op-0 hidden
  sort-faults order limit = refl

module _ (x y : Op) where
  project-receives : (items : List Expr) → receives (op.Project items x) ≡ receives x
  unfolding hidden-the_row-Op-0 hidden
  project-receives items = refl

  join-receives : (lk rk : List ℕ) → receives (op.Join lk rk x y) ≡ receives x ++ receives y
  unfolding hidden-the_row-Op-0 hidden
  join-receives lk rk = flat_map-append received (operators x) (operators y)

  partial-receives : (keys : List ℕ) (aggs : List Aggregate) → receives (op.Partial keys aggs x) ≡ receives x
  unfolding hidden-the_row-Op-0 hidden
  partial-receives keys aggs = refl

  final-receives : (n : ℕ) (aggs : List Aggregate) → receives (op.Final n aggs x) ≡ receives x
  unfolding hidden-the_row-Op-0 hidden
  final-receives n aggs = refl

  distinct-receives : receives (op.Distinct x) ≡ receives x
  unfolding hidden-the_row-Op-0 hidden
  distinct-receives = refl

  sort-receives : (order : List SortKey) (limit : Option ℕ) → receives (op.Sort order limit x) ≡ receives x
  unfolding hidden-the_row-Op-0 hidden
  sort-receives order limit = refl

-- what a slice receives stays
module _ (kinds : ℕ → List Kind) (ts : List Taken) where
  taken-receives : (t : Taken) (above : Option Expr) → receives (taken_op kinds t above) ≡ []
  unfolding hidden-the_row-Op-0 hidden
  taken-receives t None = columns-receive (are_all_from 0 (length (kinds t.table)) t.columns) (map expr.Column t.columns) (op.Scan t.table (kinds t.table))
  taken-receives t (Some c) = columns-receive (are_all_from 0 (length (kinds t.table)) t.columns) (map expr.Column t.columns) (op.Filter (full kinds t c) (op.Scan t.table (kinds t.table)))

  mutual
    pub widened-receives : (above : Option Expr) (o : Op) → receives (widened kinds ts above o) ≡ receives o
    widened-receives above (op.Scan v found) = taken-receives (taken_at ts v) above
    widened-receives above (op.Receive slice found) = under-receives above (op.Receive slice found)
    widened-receives above (op.Filter' c p input) = under-receives above (widened_in kinds ts (Some c) input) ∙ in-receives (Some c) input
    widened-receives above (op.Project' items p input) = let x : Op = widened_in kinds ts None input in under-receives above (op.Project items x) ∙ project-receives x x items ∙ in-receives None input
    widened-receives above (op.Join' lk rk p left q right) =
        let x : Op = widened_in kinds ts None left in let y : Op = widened_in kinds ts None right in
        under-receives above (op.Join lk rk x y) ∙ join-receives x y lk rk ∙ (λ i. in-receives None left i ++ in-receives None right i) ∙ sym (flat_map-append received (operators_in left) (operators_in right))
    widened-receives above (op.Partial' keys aggs p input) = let x : Op = widened_in kinds ts None input in under-receives above (op.Partial keys aggs x) ∙ partial-receives x x keys aggs ∙ in-receives None input
    widened-receives above (op.Final' n aggs p input) = let x : Op = widened_in kinds ts None input in under-receives above (op.Final n aggs x) ∙ final-receives x x n aggs ∙ in-receives None input
    widened-receives above (op.Distinct' p input) = let x : Op = widened_in kinds ts None input in under-receives above (op.Distinct x) ∙ distinct-receives x x ∙ in-receives None input
    widened-receives above (op.Sort' order limit p input) = let x : Op = widened_in kinds ts None input in under-receives above (op.Sort order limit x) ∙ sort-receives x x order limit ∙ in-receives None input

    in-receives : (above : Option Expr) (input : Row_of-Op 1) → receives (widened_in kinds ts above input) ≡ flat_map received (operators_in input)
    in-receives above (more_of-Op child rest) = widened-receives above child

  -- on a node: what it has of the tables, and the columns of it that are taken
  module _ (here taken : Here) (tables : (v : ℕ) → taken.tables v ≡ map (taken_row (taken_at ts v).columns) (here.tables (taken_at ts v).table)) (sent : (i : ℕ) → taken.sent i ≡ here.sent i)
      (wide : (t : ℕ) → AllByRecursion (IsWide (length (kinds t))) (here.tables t)) where
    taken-rows : (t : Taken) (above : Option Expr) → rows_of (taken_op kinds t above) here ≡ rows_under above (map (taken_row t.columns) (here.tables t.table))
    unfolding hidden-the_row-Op-0 hidden
    taken-rows t None = columns-rows (are_all_from 0 (length (kinds t.table)) t.columns) t.columns (op.Scan t.table (kinds t.table)) here (λ h. all-rows t.columns (length (kinds t.table)) h (here.tables t.table) (wide t.table))
    taken-rows t (Some c) =
        columns-rows (are_all_from 0 (length (kinds t.table)) t.columns) t.columns (op.Filter (full kinds t c) (op.Scan t.table (kinds t.table))) here
        (λ h. all-rows t.columns (length (kinds t.table)) h (filtered (full kinds t c) (here.tables t.table)) (filter-wide (length (kinds t.table)) (full kinds t c) (here.tables t.table) (wide t.table)))
        ∙ filter-taken t.columns (length (kinds t.table)) c (here.tables t.table) (wide t.table)

    taken-faults : (t : Taken) (above : Option Expr) → op_faults (taken_op kinds t above) here ≡ faults_under above false (map (taken_row t.columns) (here.tables t.table))
    unfolding hidden-the_row-Op-0 hidden
    taken-faults t None = columns-calm (are_all_from 0 (length (kinds t.table)) t.columns) t.columns (op.Scan t.table (kinds t.table)) here
    taken-faults t (Some c) =
        columns-calm (are_all_from 0 (length (kinds t.table)) t.columns) t.columns (op.Filter (full kinds t c) (op.Scan t.table (kinds t.table))) here
        ∙ some-faults-taken t.columns (length (kinds t.table)) c (here.tables t.table) (wide t.table)

    mutual
      pub widened-rows : (above : Option Expr) (o : Op) → rows_of (widened kinds ts above o) here ≡ rows_under above (rows_of o taken)
      widened-rows above (op.Scan v found) = taken-rows (taken_at ts v) above ∙ ap (rows_under above) (sym (tables v))
      widened-rows above (op.Receive slice found) = under-rows above (op.Receive slice found) here ∙ ap (rows_under above) (sym (sent slice))
      widened-rows above (op.Filter' c p input) = under-rows above (widened_in kinds ts (Some c) input) here ∙ ap (rows_under above) (in-rows (Some c) input)
      widened-rows above (op.Project' items p input) =
          let x : Op = widened_in kinds ts None input in
          under-rows above (op.Project items x) here ∙ ap (rows_under above) (project-rows here x x items ∙ ap (projected items) (in-rows None input))
      widened-rows above (op.Join' lk rk p left q right) =
          let x : Op = widened_in kinds ts None left in let y : Op = widened_in kinds ts None right in
          under-rows above (op.Join lk rk x y) here ∙ ap (rows_under above) (join-rows here x y lk rk ∙ (λ i. joined lk rk (in-rows None left i) (in-rows None right i)))
      widened-rows above (op.Partial' keys aggs p input) =
          let x : Op = widened_in kinds ts None input in
          under-rows above (op.Partial keys aggs x) here ∙ ap (rows_under above) (partial-rows here x x keys aggs ∙ ap (partial keys aggs) (in-rows None input))
      widened-rows above (op.Final' n aggs p input) =
          let x : Op = widened_in kinds ts None input in
          under-rows above (op.Final n aggs x) here ∙ ap (rows_under above) (final-rows here x x n aggs ∙ ap (final n aggs) (in-rows None input))
      widened-rows above (op.Distinct' p input) =
          let x : Op = widened_in kinds ts None input in
          under-rows above (op.Distinct x) here ∙ ap (rows_under above) (distinct-rows here x x ∙ ap distinct (in-rows None input))
      widened-rows above (op.Sort' order limit p input) =
          let x : Op = widened_in kinds ts None input in
          under-rows above (op.Sort order limit x) here ∙ ap (rows_under above) (sort-rows here x x order limit ∙ ap (sorted order limit) (in-rows None input))

      in-rows : (above : Option Expr) (input : Row_of-Op 1) → rows_of (widened_in kinds ts above input) here ≡ rows_under above (input_rows input taken)
      in-rows above (more_of-Op child rest) = widened-rows above child

    mutual
      pub widened-faults : (above : Option Expr) (o : Op) → op_faults (widened kinds ts above o) here ≡ faults_under above (op_faults o taken) (rows_of o taken)
      widened-faults above (op.Scan v found) = taken-faults (taken_at ts v) above ∙ ap (faults_under above false) (sym (tables v))
      widened-faults above (op.Receive slice found) = under-faults above (op.Receive slice found) here ∙ ap (faults_under above false) (sym (sent slice))
      widened-faults above (op.Filter' c p input) = under-faults above (widened_in kinds ts (Some c) input) here ∙ (λ i. faults_under above (in-faults (Some c) input i) (in-rows (Some c) input i))
      widened-faults above (op.Project' items p input) =
          let x : Op = widened_in kinds ts None input in
          under-faults above (op.Project items x) here ∙ (λ i. faults_under above (project-faults here x x items i) (project-rows here x x items i))
          ∙ (λ i. faults_under above (in-faults None input i || project_faults items (in-rows None input i)) (projected items (in-rows None input i)))
      widened-faults above (op.Join' lk rk p left q right) =
          let x : Op = widened_in kinds ts None left in let y : Op = widened_in kinds ts None right in
          under-faults above (op.Join lk rk x y) here ∙ (λ i. faults_under above (join-faults here x y lk rk i) (join-rows here x y lk rk i))
          ∙ (λ i. faults_under above (in-faults None left i || in-faults None right i) (joined lk rk (in-rows None left i) (in-rows None right i)))
      widened-faults above (op.Partial' keys aggs p input) =
          let x : Op = widened_in kinds ts None input in
          under-faults above (op.Partial keys aggs x) here ∙ (λ i. faults_under above (partial-faults here x x keys aggs i) (partial-rows here x x keys aggs i))
          ∙ (λ i. faults_under above (in-faults None input i || partial_faults aggs (in-rows None input i)) (partial keys aggs (in-rows None input i)))
      widened-faults above (op.Final' n aggs p input) =
          let x : Op = widened_in kinds ts None input in
          under-faults above (op.Final n aggs x) here ∙ (λ i. faults_under above (final-faults here x x n aggs i) (final-rows here x x n aggs i))
          ∙ (λ i. faults_under above (in-faults None input i || final_faults n aggs (in-rows None input i)) (final n aggs (in-rows None input i)))
      widened-faults above (op.Distinct' p input) =
          let x : Op = widened_in kinds ts None input in
          under-faults above (op.Distinct x) here ∙ (λ i. faults_under above (distinct-faults here x x i) (distinct-rows here x x i))
          ∙ (λ i. faults_under above (in-faults None input i) (distinct (in-rows None input i)))
      widened-faults above (op.Sort' order limit p input) =
          let x : Op = widened_in kinds ts None input in
          under-faults above (op.Sort order limit x) here ∙ (λ i. faults_under above (sort-faults here x x order limit i) (sort-rows here x x order limit i))
          ∙ (λ i. faults_under above (in-faults None input i) (sorted order limit (in-rows None input i)))

      in-faults : (above : Option Expr) (input : Row_of-Op 1) → op_faults (widened_in kinds ts above input) here ≡ faults_under above (input_faults input taken) (input_rows input taken)
      in-faults above (more_of-Op child rest) = widened-faults above child

  -- slices
  module _ (parts : Parts) (owner : List ℕ) (fit : FitKinds kinds parts) where
    module _ (sents : List Sent) (n : ℕ) where
      own-taken : (v : ℕ) → (here_at (taken_parts ts parts) owner sents n).tables v ≡ map (taken_row (taken_at ts v).columns) ((here_at parts owner sents n).tables (taken_at ts v).table)
      own-taken v = sym (map-flat_map (taken_row (taken_at ts v).columns) (parts (taken_at ts v).table) _)

      own-wide : (t : ℕ) → AllByRecursion (IsWide (length (kinds t))) ((here_at parts owner sents n).tables t)
      own-wide t = AllByRecursion-flat_map (IsWide (length (kinds t))) (parts t) (λ b. AllByRecursion-All (IsWide (length (kinds t))) (parts t b) (fit t b)) _

      rows-there : (o : Op) → rows_of (widened kinds ts None o) (here_at parts owner sents n) ≡ rows_of o (here_at (taken_parts ts parts) owner sents n)
      rows-there o = widened-rows (here_at parts owner sents n) (here_at (taken_parts ts parts) owner sents n) own-taken (λ i. refl) own-wide None o

      faults-there : (o : Op) → op_faults (widened kinds ts None o) (here_at parts owner sents n) ≡ op_faults o (here_at (taken_parts ts parts) owner sents n)
      faults-there o = widened-faults (here_at parts owner sents n) (here_at (taken_parts ts parts) owner sents n) own-taken (λ i. refl) own-wide None o

    widened-on : (sents : List Sent) (o : Op) → runs_on owner sents (widened kinds ts None o) ≡ runs_on owner sents o
    widened-on sents o = ap (λ l. cond (list_any (λ slice. is_gather (sent_by sents slice).out) l) (lowest owner ∷ []) (nodes_of owner)) (widened-receives None o)

    widened-run : (sents : List Sent) (s : Slice) → run_slice parts owner sents (widened_slice kinds ts s) ≡ run_slice (taken_parts ts parts) owner sents s
    widened-run sents s = λ i. record {
      out = s.out;
      rows = flat_map (λ n. rows-there sents n s.root i) (widened-on sents s.root i);
      fault = list_any (λ n. faults-there sents n s.root i) (widened-on sents s.root i);
    }

    widened-runs : (sents : List Sent) (slices : List Slice) → run_slices parts owner sents (map (widened_slice kinds ts) slices) ≡ run_slices (taken_parts ts parts) owner sents slices
    widened-runs sents [] = refl
    widened-runs sents (s ∷ slices) =
        ap (λ r. run_slices parts owner (sents ++ r ∷ []) (map (widened_slice kinds ts) slices)) (widened-run sents s)
        ∙ widened-runs (sents ++ run_slice (taken_parts ts parts) owner sents s ∷ []) slices

pub widened-means : (kinds : ℕ → List Kind) (ts : List Taken) (plan : Plan) (parts : Parts) (owner : List ℕ) → FitKinds kinds parts → plan_mean (widened_plan kinds ts plan) parts owner ≡ plan_mean plan (taken_parts ts parts) owner
widened-means kinds ts plan parts owner fit = ap answer_after (widened-runs kinds ts parts owner fit [] plan.slices)
