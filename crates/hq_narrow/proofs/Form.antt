-- A plan with each Scan replaced by the columns of its table is well formed.
use Rattle.std.proofs.Common.{◌≡◌, ℕ, zero, suc, ◌+◌, ◌-◌, ◌<◌, ◌≤◌, ◌==◌, Bool, true, false, not, cond, ◌&&◌, ◌||◌, nat_le, List, [], ◌∷◌, ◌++◌, drop, length, map, flat_map, count_by, Option, Some, None, is_some, slice_get, refl, sym, ◌∙◌, ap, arith, IsTrue}
use Rattle.std.specs.Option.{option_map_or}
use Rattle.std.specs.List.{list_all, list_any, range_with_len, AllByRecursion}
use Rattle.std.proofs.lemmas.List.{length-map, map-append}
use Rattle.std.proofs.lemmas.List.Folds.{list_all-append}
use Rattle.hq_value.specs.declared.kind.Kind.{Kind}
use Rattle.hq_value.specs.declared.kind.Kind.TheVariants as kind
use Rattle.hq_algebra.specs.declared.aggregate.Aggregate.{Aggregate}
use Rattle.hq_algebra.specs.declared.expr.Expr.{Expr, Row_of-Expr, end_of-Expr, more_of-Expr}
use Rattle.hq_algebra.specs.declared.expr.Expr.TheVariants as expr
use Rattle.hq_algebra.specs.declared.op.SortKey.{SortKey}
use Rattle.hq_algebra.specs.declared.op.Op.{Op, Row_of-Op, end_of-Op, more_of-Op}
use Rattle.hq_algebra.specs.declared.op.Op.TheVariants as op
use Rattle.hq_algebra.specs.declared.op.Op.TheBlock.{hidden-the_row-Op-0}
use Rattle.hq_algebra.specs.declared.plan.Plan.{Plan}
use Rattle.hq_algebra.specs.declared.plan.Slice.{Slice}
use denote.Hole.Carrier.{hidden}
use Rattle.hq_algebra.specs.Shape.{parts, parts_of, has_arith, arith_in}
use Rattle.hq_algebra.specs.Rules.{arguments, is_count, sums_no_column}
use Rattle.hq_algebra.specs.Kinds.{◌>>=◌, every, expr_kind, item_kind, column_kind, is_of, some_if}
use Rattle.hq_algebra.specs.Operators.{op_kinds, kinds_of_input, keys_kinds, items_kinds, filter_kinds, join_kinds, partial_kinds, final_kinds, sort_kinds}
use Rattle.hq_algebra.specs.Plans as form
use Rattle.hq_algebra.specs.Plans.{operators, operators_in, received, is_short, is_join, is_gather, op_is_fine, slice_is_fine, motion_stands, motion_is_fine, ends_with_result, sent_kinds, are_sent, gathers, receives_what_is_sent, receives_a_gather, only_gathers, gathers_alone, fits_before, fit_in_order, ends_with_gather, all_operators, are_received_once, joins_without_counts, are_well_formed, is_well_formed}
use Rattle.hq_meaning.specs.Slices.{receives}
use Rattle.hq_laws.specs.Turned.{renamed, renamed_in}
use Rattle.hq_laws.proofs.Lists.{both_true, eq_means, or_true}
use Rattle.hq_laws.proofs.Regroup.{flat_map-flat_map}
use Rattle.hq_laws.proofs.Shapes.{any-received, none-any, all-operators}
use Rattle.hq_laws.proofs.Typing.{length-every}
use Rattle.hq_narrow.specs.declared.taken.Taken.{Taken}
use Rattle.hq_narrow.specs.Narrow.{taken_at, place_from}
use Rattle.hq_narrow.specs.Widened.{are_all_from, columns_of, under, full, taken_op, widened, widened_in, widened_slice, widened_plan, are_kinds, scan_fits, scans_fit, are_few}
use Rattle.hq_narrow.proofs.Binding.{kind-renamed}
use Rattle.hq_narrow.proofs.Guarding.{kind-taken, same-lists}
use Rattle.hq_narrow.proofs.Widening.{all-most, widened-receives}

-- the shape of a condition stays
module _ (f : ℕ → ℕ) where
  mutual
    arith-same : (e : Expr) → has_arith (renamed f e) ≡ has_arith e
    arith-same (expr.Column place) = refl
    arith-same (expr.Literal v) = refl
    arith-same (expr.Arith' step p left q right) = refl
    arith-same (expr.Compare' test p left q right) = λ i. arith_in-same left i || arith_in-same right i
    arith-same (expr.And' p left q right) = λ i. arith_in-same left i || arith_in-same right i
    arith-same (expr.Or' p left q right) = λ i. arith_in-same left i || arith_in-same right i
    arith-same (expr.Not' p of) = arith_in-same of
    arith-same (expr.IsNull' p of) = arith_in-same of

    arith_in-same : {m : _} (of : Row_of-Expr m) → arith_in (renamed_in f of) ≡ arith_in of
    arith_in-same end_of-Expr = refl
    arith_in-same (more_of-Expr e rest) = arith-same e

  mutual
    parts-same : (e : Expr) → parts (renamed f e) ≡ parts e
    parts-same (expr.Column place) = refl
    parts-same (expr.Literal v) = refl
    parts-same (expr.Arith' step p left q right) = λ i. suc (parts_of-same left i + parts_of-same right i)
    parts-same (expr.Compare' test p left q right) = λ i. suc (parts_of-same left i + parts_of-same right i)
    parts-same (expr.And' p left q right) = λ i. suc (parts_of-same left i + parts_of-same right i)
    parts-same (expr.Or' p left q right) = λ i. suc (parts_of-same left i + parts_of-same right i)
    parts-same (expr.Not' p of) = ap suc (parts_of-same of)
    parts-same (expr.IsNull' p of) = ap suc (parts_of-same of)

    parts_of-same : {m : _} (of : Row_of-Expr m) → parts_of (renamed_in f of) ≡ parts_of of
    parts_of-same end_of-Expr = refl
    parts_of-same (more_of-Expr e rest) = parts-same e

-- what an operator under a condition gives, if there is one
abbrev kinds_under : Option Expr → Option (List Kind) → Option (List Kind)
kinds_under None found = found
kinds_under (Some c) found = found >>= filter_kinds c

under-kinds : (above : Option Expr) (x : Op) → op_kinds (under above x) ≡ kinds_under above (op_kinds x)
unfolding hidden-the_row-Op-0 hidden
under-kinds None x = refl
under-kinds (Some c) x = refl

-- the kinds of each operator over others
module _ (x y : Op) where
  project-kinds : (items : List Expr) → op_kinds (op.Project items x) ≡ (op_kinds x >>= (λ kinds. items_kinds kinds items))
  unfolding hidden-the_row-Op-0 hidden
  project-kinds items = refl

  both-kinds : (lk rk : List ℕ) → op_kinds (op.Join lk rk x y) ≡ (op_kinds x >>= (λ ls. op_kinds y >>= (λ rs. join_kinds lk rk ls rs)))
  unfolding hidden-the_row-Op-0 hidden
  both-kinds lk rk = refl

  groups-kinds : (keys : List ℕ) (aggs : List Aggregate) → op_kinds (op.Partial keys aggs x) ≡ (op_kinds x >>= partial_kinds keys aggs)
  unfolding hidden-the_row-Op-0 hidden
  groups-kinds keys aggs = refl

  finals-kinds : (n : ℕ) (aggs : List Aggregate) → op_kinds (op.Final n aggs x) ≡ (op_kinds x >>= final_kinds n aggs)
  unfolding hidden-the_row-Op-0 hidden
  finals-kinds n aggs = refl

  distinct-kinds : op_kinds (op.Distinct x) ≡ op_kinds x
  unfolding hidden-the_row-Op-0 hidden
  distinct-kinds = refl

  order-kinds : (order : List SortKey) (limit : Option ℕ) → op_kinds (op.Sort order limit x) ≡ (op_kinds x >>= sort_kinds order)
  unfolding hidden-the_row-Op-0 hidden
  order-kinds order limit = refl

module _ (kinds : ℕ → List Kind) (ts : List Taken) where
  found-kinds : (v : ℕ) (found : List Kind) → scan_fits kinds ts (op.Scan v found) ≡ true → keys_kinds (kinds (taken_at ts v).table) (taken_at ts v).columns ≡ Some found
  found-kinds v found fits = by (keys_kinds (kinds (taken_at ts v).table) (taken_at ts v).columns) refl (both_true (is_short (kinds (taken_at ts v).table)) _ fits).1
    where
      by : (o : Option (List Kind)) → keys_kinds (kinds (taken_at ts v).table) (taken_at ts v).columns ≡ o → are_kinds found o ≡ true → keys_kinds (kinds (taken_at ts v).table) (taken_at ts v).columns ≡ Some found
      by None e h = cc
      by (Some ks) e h = e ∙ ap Some (sym (same-lists found ks h))

  columns-kinds : (ks : List Kind) (columns : List ℕ) → items_kinds ks (map expr.Column columns) ≡ keys_kinds ks columns
  columns-kinds ks [] = refl
  columns-kinds ks (c ∷ columns) = λ i. one (slice_get ks c) i >>= (λ y. columns-kinds ks columns i >>= (λ ys. Some (y ∷ ys)))
    where
      one : (o : Option Kind) → item_kind (column_kind o) ≡ o
      one None = refl
      one (Some k) = refl

  -- all columns in order have the table's kinds
  kinds-next : (ks : List Kind) (i : ℕ) → i < length ks → (slice_get ks i >>= (λ y. Some (drop (suc i) ks) >>= (λ ys. Some (y ∷ ys)))) ≡ Some (drop i ks)
  kinds-next [] i h = absurd (omega (arith, h))
  kinds-next (k ∷ ks) zero h = refl
  kinds-next (k ∷ ks) (suc i) h = kinds-next ks i (omega (arith, h))

  kinds-past : (ks : List Kind) (i : ℕ) → i ≡ length ks → Some [] ≡ Some (drop i ks)
  kinds-past [] zero h = refl
  kinds-past [] (suc i) h = refl
  kinds-past (k ∷ ks) zero h = absurd (omega (arith, h))
  kinds-past (k ∷ ks) (suc i) h = kinds-past ks i (omega (arith, h))

  all-kinds : (ks : List Kind) (columns : List ℕ) (i : ℕ) → are_all_from i (length ks) columns ≡ true → keys_kinds ks columns ≡ Some (drop i ks)
  all-kinds ks [] i h = kinds-past ks i (eq_means i (length ks) h)
  all-kinds ks (c ∷ columns) i h =
      let b : (c == i ≡ true) × (are_all_from (suc i) (length ks) columns ≡ true) = both_true (c == i) _ h in
      let l : suc i ≤ length ks = all-most (suc i) (length ks) columns b.1 in
      (λ t. slice_get ks (eq_means c i b.0 t) >>= (λ y. all-kinds ks columns (suc i) b.1 t >>= (λ ys. Some (y ∷ ys)))) ∙ kinds-next ks i (omega (arith, l))

  some-same : (xs ys : List Kind) → Some xs ≡ Some ys → xs ≡ ys
  some-same xs ys h = cc

  module _ (v : ℕ) (found : List Kind) (fits : scan_fits kinds ts (op.Scan v found) ≡ true) where
    abbrev t : Taken
    t = taken_at ts v

    abbrev own : List Kind
    own = kinds t.table

    columns-found : (b : Bool) → are_all_from 0 (length own) t.columns ≡ b → (x : Op) (d : Bool) → op_kinds x ≡ some_if d own → op_kinds (cond b x (op.Project (map expr.Column t.columns) x)) ≡ some_if d found
    columns-found true h x d e = e ∙ ap (some_if d) (some-same own found (sym (all-kinds own t.columns 0 h) ∙ found-kinds v found fits))
    columns-found false h x d e = project-kinds x x (map expr.Column t.columns) ∙ ap (λ o. o >>= (λ ks. items_kinds ks (map expr.Column t.columns))) e ∙ by d
      where
        by : (d : Bool) → (some_if d own >>= (λ ks. items_kinds ks (map expr.Column t.columns))) ≡ some_if d found
        by true = columns-kinds own t.columns ∙ found-kinds v found fits
        by false = refl

    taken-kinds : (above : Option Expr) → op_kinds (taken_op kinds t above) ≡ kinds_under above (Some found)
    unfolding hidden-the_row-Op-0 hidden
    taken-kinds None = columns-found (are_all_from 0 (length own) t.columns) refl (op.Scan t.table own) true refl
    taken-kinds (Some c) =
        columns-found (are_all_from 0 (length own) t.columns) refl (op.Filter (full kinds t c) (op.Scan t.table own)) (is_of kind.Bool (expr_kind found c))
        (ap (λ k. some_if (is_of kind.Bool k) own) (kind-renamed (place_from t.columns (length own)) found own (kind-taken own t.columns found (found-kinds v found fits)) c))

  mutual
    pub widened-kinds : (above : Option Expr) (o : Op) → scans_fit kinds ts o ≡ true → op_kinds (widened kinds ts above o) ≡ kinds_under above (op_kinds o)
    widened-kinds above (op.Scan v found) fits = taken-kinds v found (both_true (scan_fits kinds ts (op.Scan v found)) true fits).0 above
    widened-kinds above (op.Receive slice found) fits = under-kinds above (op.Receive slice found)
    widened-kinds above (op.Filter' c p input) fits = under-kinds above (widened_in kinds ts (Some c) input) ∙ ap (kinds_under above) (in-kinds (Some c) input fits)
    widened-kinds above (op.Project' items p input) fits =
        let x : Op = widened_in kinds ts None input in
        under-kinds above (op.Project items x) ∙ ap (kinds_under above) (project-kinds x x items ∙ ap (λ o. o >>= (λ ks. items_kinds ks items)) (in-kinds None input fits))
    widened-kinds above (op.Join' lk rk p left q right) fits =
        let x : Op = widened_in kinds ts None left in let y : Op = widened_in kinds ts None right in
        let b : (list_all (scan_fits kinds ts) (operators_in left) ≡ true) × (list_all (scan_fits kinds ts) (operators_in right) ≡ true) =
        both_true _ _ (sym (list_all-append (scan_fits kinds ts) (operators_in left) (operators_in right)) ∙ fits) in
        under-kinds above (op.Join lk rk x y) ∙ ap (kinds_under above) (both-kinds x y lk rk ∙ (λ i. in-kinds None left b.0 i >>= (λ ls. in-kinds None right b.1 i >>= (λ rs. join_kinds lk rk ls rs))))
    widened-kinds above (op.Partial' keys aggs p input) fits =
        let x : Op = widened_in kinds ts None input in
        under-kinds above (op.Partial keys aggs x) ∙ ap (kinds_under above) (groups-kinds x x keys aggs ∙ ap (λ o. o >>= partial_kinds keys aggs) (in-kinds None input fits))
    widened-kinds above (op.Final' n aggs p input) fits =
        let x : Op = widened_in kinds ts None input in
        under-kinds above (op.Final n aggs x) ∙ ap (kinds_under above) (finals-kinds x x n aggs ∙ ap (λ o. o >>= final_kinds n aggs) (in-kinds None input fits))
    widened-kinds above (op.Distinct' p input) fits =
        let x : Op = widened_in kinds ts None input in
        under-kinds above (op.Distinct x) ∙ ap (kinds_under above) (distinct-kinds x x ∙ in-kinds None input fits)
    widened-kinds above (op.Sort' order limit p input) fits =
        let x : Op = widened_in kinds ts None input in
        under-kinds above (op.Sort order limit x) ∙ ap (kinds_under above) (order-kinds x x order limit ∙ ap (λ o. o >>= sort_kinds order) (in-kinds None input fits))

    in-kinds : (above : Option Expr) (input : Row_of-Op 1) → list_all (scan_fits kinds ts) (operators_in input) ≡ true → op_kinds (widened_in kinds ts above input) ≡ kinds_under above (kinds_of_input input)
    in-kinds above (more_of-Op child rest) fits = widened-kinds above child fits

-- what an operator says of itself, without its inputs
data Head : Type 0 where
  AScan : (table : ℕ) → (found : List Kind) → Head
  AReceive : (slice : ℕ) → (found : List Kind) → Head
  AFilter : (cond : Expr) → Head
  AProject : (items : List Expr) → Head
  AJoin : (lk : List ℕ) → (rk : List ℕ) → Head
  APartial : (keys : List ℕ) → (aggs : List Aggregate) → Head
  AFinal : (keys : ℕ) → (aggs : List Aggregate) → Head
  ADistinct : Head
  ASort : (order : List SortKey) → (limit : Option ℕ) → Head

abbrev head : Op → Head
head (op.Scan table found) = AScan table found
head (op.Receive slice found) = AReceive slice found
head (op.Filter' cond _ input) = AFilter cond
head (op.Project' items _ input) = AProject items
head (op.Join' lk rk _ left _ right) = AJoin lk rk
head (op.Partial' keys aggs _ input) = APartial keys aggs
head (op.Final' n aggs _ input) = AFinal n aggs
head (op.Distinct' _ input) = ADistinct
head (op.Sort' order limit _ input) = ASort order limit

-- an operator and those below it pass a test
abbrev Passes : (Head → Bool) → Op → Type 0
Passes q x = list_all (λ o. q (head o)) (operators x) ≡ true

abbrev MayStand : (Head → Bool) → Option Expr → Type 0
MayStand q None = Unit {0}
MayStand q (Some c) = (q (AFilter c) ≡ true) × ((f : ℕ → ℕ) → q (AFilter (renamed f c)) ≡ true)

-- a test that the operators of a plan pass, and one that those of the other pass then
record Carries (kinds : ℕ → List Kind) (ts : List Taken) (p q : Head → Bool) : Type 0 where
  scan : (v : ℕ) (found : List Kind) → scan_fits kinds ts (op.Scan v found) ≡ true → p (AScan v found) ≡ true
      → (q (AScan (taken_at ts v).table (kinds (taken_at ts v).table)) ≡ true) × (q (AProject (map expr.Column (taken_at ts v).columns)) ≡ true)
  receive : (slice : ℕ) (found : List Kind) → p (AReceive slice found) ≡ true → q (AReceive slice found) ≡ true
  filter : (c : Expr) → p (AFilter c) ≡ true → (q (AFilter c) ≡ true) × ((f : ℕ → ℕ) → q (AFilter (renamed f c)) ≡ true)
  project : (items : List Expr) → p (AProject items) ≡ true → q (AProject items) ≡ true
  join : (lk rk : List ℕ) → p (AJoin lk rk) ≡ true → q (AJoin lk rk) ≡ true
  partial : (keys : List ℕ) (aggs : List Aggregate) → p (APartial keys aggs) ≡ true → q (APartial keys aggs) ≡ true
  final : (n : ℕ) (aggs : List Aggregate) → p (AFinal n aggs) ≡ true → q (AFinal n aggs) ≡ true
  distinct : p ADistinct ≡ true → q ADistinct ≡ true
  sort : (order : List SortKey) (limit : Option ℕ) → p (ASort order limit) ≡ true → q (ASort order limit) ≡ true

module _ (q : Head → Bool) (x : Op) (h : Passes q x) where
  filter-passes : (c : Expr) → q (AFilter c) ≡ true → Passes q (op.Filter c x)
  unfolding hidden-the_row-Op-0 hidden
  filter-passes c own = λ i. own i && h i

  under-passes : (above : Option Expr) → MayStand q above → Passes q (under above x)
  under-passes None own = h
  under-passes (Some c) own = filter-passes c own.0

  project-passes : (items : List Expr) → q (AProject items) ≡ true → Passes q (op.Project items x)
  unfolding hidden-the_row-Op-0 hidden
  project-passes items own = λ i. own i && h i

  partial-passes : (keys : List ℕ) (aggs : List Aggregate) → q (APartial keys aggs) ≡ true → Passes q (op.Partial keys aggs x)
  unfolding hidden-the_row-Op-0 hidden
  partial-passes keys aggs own = λ i. own i && h i

  final-passes : (n : ℕ) (aggs : List Aggregate) → q (AFinal n aggs) ≡ true → Passes q (op.Final n aggs x)
  unfolding hidden-the_row-Op-0 hidden
  final-passes n aggs own = λ i. own i && h i

  distinct-passes : q ADistinct ≡ true → Passes q (op.Distinct x)
  unfolding hidden-the_row-Op-0 hidden
  distinct-passes own = λ i. own i && h i

  sort-passes : (order : List SortKey) (limit : Option ℕ) → q (ASort order limit) ≡ true → Passes q (op.Sort order limit x)
  unfolding hidden-the_row-Op-0 hidden
  sort-passes order limit own = λ i. own i && h i

  join-passes : (y : Op) → Passes q y → (lk rk : List ℕ) → q (AJoin lk rk) ≡ true → Passes q (op.Join lk rk x y)
  unfolding hidden-the_row-Op-0 hidden
  join-passes y g lk rk own = λ i. own i && (list_all-append (λ o. q (head o)) (operators x) (operators y) ∙ (λ j. h j && g j)) i

scan-passes : (q : Head → Bool) (t : ℕ) (ks : List Kind) → q (AScan t ks) ≡ true → Passes q (op.Scan t ks)
scan-passes q t ks own = λ i. own i && true

receive-passes : (q : Head → Bool) (slice : ℕ) (ks : List Kind) → q (AReceive slice ks) ≡ true → Passes q (op.Receive slice ks)
receive-passes q slice ks own = λ i. own i && true

module _ (kinds : ℕ → List Kind) (ts : List Taken) where
  module _ (p q : Head → Bool) (carry : Carries kinds ts p q) where
    columns-passes : (b : Bool) (x : Op) → Passes q x → (items : List Expr) → q (AProject items) ≡ true → Passes q (cond b x (op.Project items x))
    columns-passes true x h items own = h
    columns-passes false x h items own = project-passes q x h items own

    taken-passes : (v : ℕ) (found : List Kind) → scan_fits kinds ts (op.Scan v found) ≡ true → p (AScan v found) ≡ true → (above : Option Expr) → MayStand q above → Passes q (taken_op kinds (taken_at ts v) above)
    taken-passes v found fits own None may =
        let c = carry.scan v found fits own in
        columns-passes (are_all_from 0 (length (kinds (taken_at ts v).table)) (taken_at ts v).columns) (op.Scan (taken_at ts v).table (kinds (taken_at ts v).table)) (scan-passes q (taken_at ts v).table (kinds (taken_at ts v).table) c.0) (map expr.Column (taken_at ts v).columns) c.1
    taken-passes v found fits own (Some e) may =
        let c = carry.scan v found fits own in
        columns-passes (are_all_from 0 (length (kinds (taken_at ts v).table)) (taken_at ts v).columns) (op.Filter (full kinds (taken_at ts v) e) (op.Scan (taken_at ts v).table (kinds (taken_at ts v).table)))
        (filter-passes q (op.Scan (taken_at ts v).table (kinds (taken_at ts v).table)) (scan-passes q (taken_at ts v).table (kinds (taken_at ts v).table) c.0) (full kinds (taken_at ts v) e) (may.1 (place_from (taken_at ts v).columns (length (kinds (taken_at ts v).table)))))
        (map expr.Column (taken_at ts v).columns) c.1

    mutual
      widened-passes : (o : Op) → scans_fit kinds ts o ≡ true → Passes p o → (above : Option Expr) → MayStand q above → Passes q (widened kinds ts above o)
      widened-passes (op.Scan v found) fits h above may = taken-passes v found (both_true (scan_fits kinds ts (op.Scan v found)) true fits).0 (both_true (p (AScan v found)) true h).0 above may
      widened-passes (op.Receive slice found) fits h above may = under-passes q (op.Receive slice found) (receive-passes q slice found (carry.receive slice found (both_true (p (AReceive slice found)) true h).0)) above may
      widened-passes (op.Filter' c z input) fits h above may =
          let b : (p (AFilter c) ≡ true) × (list_all (λ o. p (head o)) (operators_in input) ≡ true) = both_true (p (AFilter c)) _ h in
          under-passes q (widened_in kinds ts (Some c) input) (in-passes input fits b.1 (Some c) (carry.filter c b.0)) above may
      widened-passes (op.Project' items z input) fits h above may =
          let b : (p (AProject items) ≡ true) × (list_all (λ o. p (head o)) (operators_in input) ≡ true) = both_true (p (AProject items)) _ h in
          let x : Op = widened_in kinds ts None input in
          under-passes q (op.Project items x) (project-passes q x (in-passes input fits b.1 None tt) items (carry.project items b.0)) above may
      widened-passes (op.Join' lk rk z left y right) fits h above may =
          let f : (list_all (scan_fits kinds ts) (operators_in left) ≡ true) × (list_all (scan_fits kinds ts) (operators_in right) ≡ true) =
          both_true _ _ (sym (list_all-append (scan_fits kinds ts) (operators_in left) (operators_in right)) ∙ fits) in
          let b : (p (AJoin lk rk) ≡ true) × (list_all (λ o. p (head o)) (operators_in left ++ operators_in right) ≡ true) = both_true (p (AJoin lk rk)) _ h in
          let g : (list_all (λ o. p (head o)) (operators_in left) ≡ true) × (list_all (λ o. p (head o)) (operators_in right) ≡ true) =
          both_true _ _ (sym (list_all-append (λ o. p (head o)) (operators_in left) (operators_in right)) ∙ b.1) in
          let l : Op = widened_in kinds ts None left in
          let r : Op = widened_in kinds ts None right in
          under-passes q (op.Join lk rk l r) (join-passes q l (in-passes left f.0 g.0 None tt) r (in-passes right f.1 g.1 None tt) lk rk (carry.join lk rk b.0)) above may
      widened-passes (op.Partial' keys aggs z input) fits h above may =
          let b : (p (APartial keys aggs) ≡ true) × (list_all (λ o. p (head o)) (operators_in input) ≡ true) = both_true (p (APartial keys aggs)) _ h in
          let x : Op = widened_in kinds ts None input in
          under-passes q (op.Partial keys aggs x) (partial-passes q x (in-passes input fits b.1 None tt) keys aggs (carry.partial keys aggs b.0)) above may
      widened-passes (op.Final' n aggs z input) fits h above may =
          let b : (p (AFinal n aggs) ≡ true) × (list_all (λ o. p (head o)) (operators_in input) ≡ true) = both_true (p (AFinal n aggs)) _ h in
          let x : Op = widened_in kinds ts None input in
          under-passes q (op.Final n aggs x) (final-passes q x (in-passes input fits b.1 None tt) n aggs (carry.final n aggs b.0)) above may
      widened-passes (op.Distinct' z input) fits h above may =
          let b : (p ADistinct ≡ true) × (list_all (λ o. p (head o)) (operators_in input) ≡ true) = both_true (p ADistinct) _ h in
          let x : Op = widened_in kinds ts None input in
          under-passes q (op.Distinct x) (distinct-passes q x (in-passes input fits b.1 None tt) (carry.distinct b.0)) above may
      widened-passes (op.Sort' order limit z input) fits h above may =
          let b : (p (ASort order limit) ≡ true) × (list_all (λ o. p (head o)) (operators_in input) ≡ true) = both_true (p (ASort order limit)) _ h in
          let x : Op = widened_in kinds ts None input in
          under-passes q (op.Sort order limit x) (sort-passes q x (in-passes input fits b.1 None tt) order limit (carry.sort order limit b.0)) above may

      in-passes : (input : Row_of-Op 1) → list_all (scan_fits kinds ts) (operators_in input) ≡ true → list_all (λ o. p (head o)) (operators_in input) ≡ true → (above : Option Expr) → MayStand q above → Passes q (widened_in kinds ts above input)
      in-passes (more_of-Op child rest) fits h above may = widened-passes child fits h above may

  abbrev wide : Slice → Slice
  wide = widened_slice kinds ts

  abbrev Fit : List Slice → Type 0
  Fit slices = list_all (λ (s : Slice). scans_fit kinds ts s.root) slices ≡ true

  -- tests as tests of what operators say
  abbrev fine_head : Head → Bool
  fine_head (AScan t ks) = is_short ks
  fine_head (AReceive i ks) = is_short ks
  fine_head (AFilter c) = (nat_le (parts c) 2100 && true) && (not (has_arith c) && true)
  fine_head (AProject items) = list_all (λ e. nat_le (parts e) 2100) items && (true && is_short items)
  fine_head (AJoin lk rk) = is_short lk && is_short rk
  fine_head (APartial keys aggs) = list_all (λ e. nat_le (parts e) 2100) (arguments aggs) && (true && (is_short keys && is_short aggs))
  fine_head (AFinal n aggs) = list_all (λ e. nat_le (parts e) 2100) (arguments aggs) && (true && is_short aggs)
  fine_head ADistinct = true
  fine_head (ASort order limit) = is_short order

  fine-same : (o : Op) → op_is_fine o ≡ fine_head (head o)
  fine-same (op.Scan t ks) = refl
  fine-same (op.Receive i ks) = refl
  fine-same (op.Filter' c z input) = refl
  fine-same (op.Project' items z input) = refl
  fine-same (op.Join' lk rk z left y right) = refl
  fine-same (op.Partial' keys aggs z input) = refl
  fine-same (op.Final' n aggs z input) = refl
  fine-same (op.Distinct' z input) = refl
  fine-same (op.Sort' order limit z input) = refl

  few-columns : (columns : List ℕ) → list_all (λ e. nat_le (parts e) 2100) (map expr.Column columns) ≡ true
  few-columns [] = refl
  few-columns (c ∷ columns) = few-columns columns

  fine-carries : Carries kinds ts fine_head fine_head
  fine-carries = record {
    scan = λ v found fits h. let l : length found ≡ length (taken_at ts v).columns = length-every (slice_get (kinds (taken_at ts v).table)) (taken_at ts v).columns found (found-kinds kinds ts v found fits) in
        ((both_true (is_short (kinds (taken_at ts v).table)) _ fits).0, (λ i. few-columns (taken_at ts v).columns i && (true && (ap (λ n. nat_le n 65535) (length-map (taken_at ts v).columns expr.Column ∙ sym l) ∙ h) i)));
    receive = λ slice found h. h;
    filter = λ c h. (h, λ f. (λ i. (nat_le (parts-same f c i) 2100 && true) && (not (arith-same f c i) && true)) ∙ h);
    project = λ items h. h;
    join = λ lk rk h. h;
    partial = λ keys aggs h. h;
    final = λ n aggs h. h;
    distinct = λ h. h;
    sort = λ order limit h. h;
  }

  abbrev sent_head : List Slice → Head → Bool
  sent_head before (AReceive i ks) = are_sent ks (sent_kinds before i)
  sent_head before _ = true

  sent-same : (before : List Slice) (o : Op) → receives_what_is_sent before o ≡ sent_head before (head o)
  sent-same before (op.Scan t ks) = refl
  sent-same before (op.Receive i ks) = refl
  sent-same before (op.Filter' c z input) = refl
  sent-same before (op.Project' items z input) = refl
  sent-same before (op.Join' lk rk z left y right) = refl
  sent-same before (op.Partial' keys aggs z input) = refl
  sent-same before (op.Final' n aggs z input) = refl
  sent-same before (op.Distinct' z input) = refl
  sent-same before (op.Sort' order limit z input) = refl

  sent-stays : (before : List Slice) → Fit before → (i : ℕ) → sent_kinds (map wide before) i ≡ sent_kinds before i
  sent-stays [] fit i = refl
  sent-stays (s ∷ before) fit zero = widened-kinds kinds ts None s.root (both_true (scans_fit kinds ts s.root) _ fit).0
  sent-stays (s ∷ before) fit (suc i) = sent-stays before (both_true (scans_fit kinds ts s.root) _ fit).1 i

  sent-carries : (before : List Slice) → Fit before → Carries kinds ts (sent_head before) (sent_head (map wide before))
  sent-carries before fit = record {
    scan = λ v found fits h. (refl, refl);
    receive = λ slice found h. ap (are_sent found) (sent-stays before fit slice) ∙ h;
    filter = λ c h. (refl, λ f. refl);
    project = λ items h. refl;
    join = λ lk rk h. refl;
    partial = λ keys aggs h. refl;
    final = λ n aggs h. refl;
    distinct = λ h. refl;
    sort = λ order limit h. refl;
  }

  abbrev gather_head : List Slice → Head → Bool
  gather_head before (AScan t ks) = false
  gather_head before (AReceive i ks) = gathers before i && true
  gather_head before _ = true

  gather-same : (before : List Slice) (o : Op) → only_gathers before o ≡ gather_head before (head o)
  gather-same before (op.Scan t ks) = refl
  gather-same before (op.Receive i ks) = refl
  gather-same before (op.Filter' c z input) = refl
  gather-same before (op.Project' items z input) = refl
  gather-same before (op.Join' lk rk z left y right) = refl
  gather-same before (op.Partial' keys aggs z input) = refl
  gather-same before (op.Final' n aggs z input) = refl
  gather-same before (op.Distinct' z input) = refl
  gather-same before (op.Sort' order limit z input) = refl

  gathers-stay : (before : List Slice) (i : ℕ) → gathers (map wide before) i ≡ gathers before i
  gathers-stay [] i = refl
  gathers-stay (s ∷ before) zero = refl
  gathers-stay (s ∷ before) (suc i) = gathers-stay before i

  gather-carries : (before : List Slice) → Carries kinds ts (gather_head before) (gather_head (map wide before))
  gather-carries before = record {
    scan = λ v found fits h. absurd (let u : false ≡ true = h in cc);
    receive = λ slice found h. ap (λ b. b && true) (gathers-stay before slice) ∙ h;
    filter = λ c h. (refl, λ f. refl);
    project = λ items h. refl;
    join = λ lk rk h. refl;
    partial = λ keys aggs h. refl;
    final = λ n aggs h. refl;
    distinct = λ h. refl;
    sort = λ order limit h. refl;
  }

  abbrev apart_head : Head → Bool
  apart_head (AJoin lk rk) = false
  apart_head _ = true

  apart-same : (o : Op) → not (is_join o) ≡ apart_head (head o)
  apart-same (op.Scan t ks) = refl
  apart-same (op.Receive i ks) = refl
  apart-same (op.Filter' c z input) = refl
  apart-same (op.Project' items z input) = refl
  apart-same (op.Join' lk rk z left y right) = refl
  apart-same (op.Partial' keys aggs z input) = refl
  apart-same (op.Final' n aggs z input) = refl
  apart-same (op.Distinct' z input) = refl
  apart-same (op.Sort' order limit z input) = refl

  apart-carries : Carries kinds ts apart_head apart_head
  apart-carries = record {
    scan = λ v found fits h. (refl, refl);
    receive = λ slice found h. refl;
    filter = λ c h. (refl, λ f. refl);
    project = λ items h. refl;
    join = λ lk rk h. h;
    partial = λ keys aggs h. refl;
    final = λ n aggs h. refl;
    distinct = λ h. refl;
    sort = λ order limit h. refl;
  }

  abbrev pairs_head : Head → Bool
  pairs_head (APartial keys aggs) = list_all (λ a. not (is_count a) && not (sums_no_column a)) aggs
  pairs_head (AFinal n aggs) = list_all (λ a. not (is_count a)) aggs
  pairs_head _ = true

  pairs-same : (o : Op) → form.stands_over_pairs o ≡ pairs_head (head o)
  pairs-same (op.Scan t ks) = refl
  pairs-same (op.Receive i ks) = refl
  pairs-same (op.Filter' c z input) = refl
  pairs-same (op.Project' items z input) = refl
  pairs-same (op.Join' lk rk z left y right) = refl
  pairs-same (op.Partial' keys aggs z input) = refl
  pairs-same (op.Final' n aggs z input) = refl
  pairs-same (op.Distinct' z input) = refl
  pairs-same (op.Sort' order limit z input) = refl

  pairs-carries : Carries kinds ts pairs_head pairs_head
  pairs-carries = record {
    scan = λ v found fits h. (refl, refl);
    receive = λ slice found h. refl;
    filter = λ c h. (refl, λ f. refl);
    project = λ items h. refl;
    join = λ lk rk h. refl;
    partial = λ keys aggs h. h;
    final = λ n aggs h. h;
    distinct = λ h. refl;
    sort = λ order limit h. refl;
  }

  -- of an operator, and of all slices
  module _ (P Q : Op → Bool) (p q : Head → Bool) (before_same : (o : Op) → P o ≡ p (head o)) (after_same : (o : Op) → Q o ≡ q (head o)) (carry : Carries kinds ts p q) where
    carried : (o : Op) → scans_fit kinds ts o ≡ true → list_all P (operators o) ≡ true → list_all Q (operators (widened kinds ts None o)) ≡ true
    carried o fits h =
        (λ i. list_all (λ x. after_same x i) (operators (widened kinds ts None o)))
        ∙ widened-passes p q carry o fits ((λ i. list_all (λ x. sym (before_same x) i) (operators o)) ∙ h) None tt

    all-carried : (slices : List Slice) → Fit slices → list_all P (all_operators slices) ≡ true → list_all Q (all_operators (map wide slices)) ≡ true
    all-carried [] fit h = refl
    all-carried (s ∷ slices) fit h =
        let f : (scans_fit kinds ts s.root ≡ true) × Fit slices = both_true (scans_fit kinds ts s.root) _ fit in
        let b : (list_all P (operators s.root) ≡ true) × (list_all P (all_operators slices) ≡ true) = both_true _ _ (sym (list_all-append P (operators s.root) (all_operators slices)) ∙ h) in
        list_all-append Q (operators (widened kinds ts None s.root)) (all_operators (map wide slices)) ∙ (λ i. carried s.root f.0 b.0 i && all-carried slices f.1 b.1 i)

  -- each slice
  slices-fine : (slices : List Slice) → Fit slices → list_all (are_few kinds ts) slices ≡ true → list_all slice_is_fine slices ≡ true → list_all slice_is_fine (map wide slices) ≡ true
  slices-fine [] fit few h = refl
  slices-fine (s ∷ slices) fit few h =
      let f : (scans_fit kinds ts s.root ≡ true) × Fit slices = both_true (scans_fit kinds ts s.root) _ fit in
      let n : (are_few kinds ts s ≡ true) × (list_all (are_few kinds ts) slices ≡ true) = both_true (are_few kinds ts s) _ few in
      let b : (slice_is_fine s ≡ true) × (list_all slice_is_fine slices ≡ true) = both_true (slice_is_fine s) _ h in
      let c : (nat_le (length (operators s.root)) 64 ≡ true) × ((list_all op_is_fine (operators s.root) && is_some (op_kinds s.root)) ≡ true) = both_true (nat_le (length (operators s.root)) 64) _ b.0 in
      let d : (list_all op_is_fine (operators s.root) ≡ true) × (is_some (op_kinds s.root) ≡ true) = both_true (list_all op_is_fine (operators s.root)) _ c.1 in
      λ i. (n.0 i && (carried op_is_fine op_is_fine fine_head fine_head fine-same fine-same fine-carries s.root f.0 d.0 i && (ap (λ (o : Option (List Kind)). is_some o) (widened-kinds kinds ts None s.root f.0) ∙ d.1) i)) && slices-fine slices f.1 n.1 b.1 i

  motions-fine : (slices : List Slice) → Fit slices → list_all motion_is_fine (map wide slices) ≡ list_all motion_is_fine slices
  motions-fine [] fit = refl
  motions-fine (s ∷ slices) fit =
      let f : (scans_fit kinds ts s.root ≡ true) × Fit slices = both_true (scans_fit kinds ts s.root) _ fit in
      λ i. motion_stands s.out (widened-kinds kinds ts None s.root f.0 i) && motions-fine slices f.1 i

  results-stay : (slices : List Slice) → ends_with_result (map wide slices) ≡ ends_with_result slices
  results-stay [] = refl
  results-stay (s ∷ []) = refl
  results-stay (s ∷ t ∷ slices) = ap (λ b. not (form.is_result s.out) && b) (results-stay (t ∷ slices))

  some-gather : (before : List Slice) (s : Slice) → list_any (receives_a_gather (map wide before)) (operators (wide s).root) ≡ list_any (receives_a_gather before) (operators s.root)
  some-gather before s =
      any-received (map wide before) (widened kinds ts None s.root)
      ∙ (λ i. list_any (λ n. gathers-stay before n i) (widened-receives kinds ts None s.root i))
      ∙ sym (any-received before s.root)

  gathers-last : (before slices : List Slice) → ends_with_gather (map wide before) (map wide slices) ≡ ends_with_gather before slices
  gathers-last before [] = refl
  gathers-last before (s ∷ []) = some-gather before s
  gathers-last before (s ∷ t ∷ slices) = ap (λ l. ends_with_gather l (map wide (t ∷ slices))) (sym (map-append wide before (s ∷ []))) ∙ gathers-last (before ++ s ∷ []) (t ∷ slices)

  fits-stay : (before : List Slice) → Fit before → (s : Slice) → scans_fit kinds ts s.root ≡ true → fits_before before s ≡ true → fits_before (map wide before) (wide s) ≡ true
  fits-stay before fit s own h =
      let b : (list_all (receives_what_is_sent before) (operators s.root) ≡ true) × (gathers_alone before (operators s.root) ≡ true) = both_true (list_all (receives_what_is_sent before) (operators s.root)) _ h in
      λ i. carried (receives_what_is_sent before) (receives_what_is_sent (map wide before)) (sent_head before) (sent_head (map wide before)) (sent-same before) (sent-same (map wide before)) (sent-carries before fit) s.root own b.0 i
      && (ap (λ c. not c || list_all (only_gathers (map wide before)) (operators (wide s).root)) (some-gather before s) ∙ by (list_any (receives_a_gather before) (operators s.root)) b.1) i
    where
      by : (c : Bool) → (not c || list_all (only_gathers before) (operators s.root)) ≡ true → (not c || list_all (only_gathers (map wide before)) (operators (wide s).root)) ≡ true
      by true g = carried (only_gathers before) (only_gathers (map wide before)) (gather_head before) (gather_head (map wide before)) (gather-same before) (gather-same (map wide before)) (gather-carries before) s.root own g
      by false g = refl

  order-stays : (before slices : List Slice) → Fit before → Fit slices → fit_in_order before slices ≡ true → fit_in_order (map wide before) (map wide slices) ≡ true
  order-stays before [] fit all h = refl
  order-stays before (s ∷ slices) fit all h =
      let f : (scans_fit kinds ts s.root ≡ true) × Fit slices = both_true (scans_fit kinds ts s.root) _ all in
      let b : (fits_before before s ≡ true) × (fit_in_order (before ++ s ∷ []) slices ≡ true) = both_true (fits_before before s) _ h in
      let more : Fit (before ++ s ∷ []) = list_all-append (λ (s : Slice). scans_fit kinds ts s.root) before (s ∷ []) ∙ (λ i. fit i && (f.0 i && true)) in
      λ i. fits-stay before fit s f.0 b.0 i && (ap (λ l. fit_in_order l (map wide slices)) (sym (map-append wide before (s ∷ []))) ∙ order-stays (before ++ s ∷ []) slices more f.1 b.1) i

  all-receives : (slices : List Slice) → flat_map (λ (s : Slice). receives s.root) (map wide slices) ≡ flat_map (λ (s : Slice). receives s.root) slices
  all-receives [] = refl
  all-receives (s ∷ slices) = λ i. widened-receives kinds ts None s.root i ++ all-receives slices i

  received-stay : (slices : List Slice) → flat_map received (all_operators (map wide slices)) ≡ flat_map received (all_operators slices)
  received-stay slices = flat_map-flat_map received (λ (s : Slice). operators s.root) (map wide slices) ∙ all-receives slices ∙ sym (flat_map-flat_map received (λ (s : Slice). operators s.root) slices)

  once-stays : (slices : List Slice) → are_received_once (map wide slices) ≡ are_received_once slices
  once-stays slices = λ i. list_all (λ n. count_by (λ m. m == n) (received-stay slices i) == 1) (range_with_len 0 (length-map slices wide i - 1))

  all-apart : (ops : List Op) → list_any is_join ops ≡ false → list_all (λ o. not (is_join o)) ops ≡ true
  all-apart [] h = refl
  all-apart (o ∷ ops) h = by (is_join o) h (all-apart ops)
    where
      by : (b : Bool) → (b || list_any is_join ops) ≡ false → (list_any is_join ops ≡ false → list_all (λ o. not (is_join o)) ops ≡ true) → (not b && list_all (λ o. not (is_join o)) ops) ≡ true
      by true g rest = cc
      by false g rest = rest g

  counts-stay : (slices : List Slice) → Fit slices → joins_without_counts (all_operators slices) ≡ true → joins_without_counts (all_operators (map wide slices)) ≡ true
  counts-stay slices fit h = by (list_any is_join (all_operators slices)) refl h
    where
      by : (b : Bool) → list_any is_join (all_operators slices) ≡ b → (not b || list_all form.stands_over_pairs (all_operators slices)) ≡ true → (not (list_any is_join (all_operators (map wide slices))) || list_all form.stands_over_pairs (all_operators (map wide slices))) ≡ true
      by true e g =
          ap (λ b. not (list_any is_join (all_operators (map wide slices))) || b) (all-carried form.stands_over_pairs form.stands_over_pairs pairs_head pairs_head pairs-same pairs-same pairs-carries slices fit g)
          ∙ or_true (not (list_any is_join (all_operators (map wide slices))))
      by false e g =
          ap (λ b. not b || list_all form.stands_over_pairs (all_operators (map wide slices)))
          (none-any is_join (all_operators (map wide slices)) (all-carried (λ o. not (is_join o)) (λ o. not (is_join o)) apart_head apart_head apart-same apart-same apart-carries slices fit (all-apart (all_operators slices) e)))

pub widened-well_formed : (kinds : ℕ → List Kind) (ts : List Taken) (plan : Plan) → IsTrue (is_well_formed plan) → IsTrue (list_all (λ (s : Slice). scans_fit kinds ts s.root) plan.slices) → IsTrue (list_all (are_few kinds ts) plan.slices)
    → IsTrue (is_well_formed (widened_plan kinds ts plan))
widened-well_formed kinds ts plan h fit few =
    let all : are_well_formed plan.slices ≡ true = h in
    let a = both_true (nat_le 2 (length plan.slices)) _ all in
    let b = both_true (nat_le (length plan.slices) 64) _ a.1 in
    let c = both_true (ends_with_result plan.slices) _ b.1 in
    let d = both_true (list_all slice_is_fine plan.slices) _ c.1 in
    let e = both_true (list_all motion_is_fine plan.slices) _ d.1 in
    let f = both_true (fit_in_order [] plan.slices) _ e.1 in
    let g = both_true (ends_with_gather [] plan.slices) _ f.1 in
    let j = both_true (are_received_once plan.slices) _ g.1 in
    let count : length (map (widened_slice kinds ts) plan.slices) ≡ length plan.slices = length-map plan.slices (widened_slice kinds ts) in
    λ i. (ap (λ n. nat_le 2 n) count ∙ a.0) i && ((ap (λ n. nat_le n 64) count ∙ b.0) i && ((results-stay kinds ts plan.slices ∙ c.0) i && (slices-fine kinds ts plan.slices fit few d.0 i
    && ((motions-fine kinds ts plan.slices fit ∙ e.0) i && (order-stays kinds ts [] plan.slices refl fit f.0 i && ((gathers-last kinds ts [] plan.slices ∙ g.0) i && ((once-stays kinds ts plan.slices ∙ j.0) i
    && counts-stay kinds ts plan.slices fit j.1 i)))))))
