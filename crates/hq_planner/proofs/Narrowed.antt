-- A query over the columns that are taken of its sources is one, and its plan, over the tables, serves the query.
use Rattle.std.proofs.Common.{◌≡◌, ℕ, ◌+◌, nat_le, Bool, true, false, cond, not, ◌&&◌, ◌||◌, List, [], ◌∷◌, ◌++◌, length, map, Option, Some, None, slice_get, refl, sym, ◌∙◌, ap, subst, arith}
use Rattle.std.specs.List.{list_all, AllByRecursion, range_with_len}
use Rattle.std.proofs.lemmas.List.{length-map}
use Rattle.std.proofs.lemmas.List.FromFn.{length-range_with_len}
use Rattle.std.proofs.lemmas.List.Folds.{list_all-append}
use Rattle.hq_value.specs.Tables.{all_below}
use Rattle.hq_value.specs.declared.kind.Kind.{Kind}
use Rattle.hq_algebra.specs.declared.aggregate.Aggregate.{Aggregate}
use Rattle.hq_algebra.specs.declared.expr.Expr.{Expr}
use Rattle.hq_algebra.specs.declared.op.SortKey.{SortKey}
use Rattle.hq_algebra.specs.declared.plan.Plan.{Plan}
use Rattle.hq_algebra.specs.declared.query.Query.{Query}
use Rattle.hq_algebra.specs.Bound.{is_table, is_bound}
use Rattle.hq_algebra.specs.Operators.{keys_kinds}
use Rattle.hq_algebra.specs.Plans.{is_well_formed}
use Rattle.hq_algebra.specs.Rules.{is_empty, cannot_fault, are_small, arguments, fit_sources, are_below, are_within}
use Rattle.hq_algebra.specs.Shape.{parts}
use Rattle.hq_meaning.specs.Mean.{mean}
use Rattle.hq_meaning.specs.Plans.{all_rows}
use Rattle.hq_laws.specs.Turned.{renamed, renamed_aggregate, AreTurned, columns_in}
use Rattle.hq_laws.proofs.Renaming.{calm-renamed, small-renamed, arguments-renamed, pairs-renamed}
use Rattle.hq_laws.proofs.Turning.{tables-fit}
use Rattle.hq_laws.proofs.Typing.{length-every}
use Rattle.hq_narrow.specs.declared.taken.Taken.{Taken}
use Rattle.hq_narrow.specs.Narrow.{taken_at, taken_parts, place_from, places, are_there}
use Rattle.hq_narrow.specs.Widened.{widened_plan, HaveKinds}
use Rattle.hq_narrow.proofs.Binding.{bound-taken}
use Rattle.hq_narrow.proofs.Form.{widened-well_formed}
use Rattle.hq_narrow.proofs.Guarding.{below-found, scans-guarded}
use Rattle.hq_narrow.proofs.Keyed.{keys-stand, rows-fit}
use Rattle.hq_narrow.proofs.Taking.{mean-taken, rows-taken}
use Rattle.hq_narrow.proofs.Widening.{widened-means}
use Rattle.hq_whole.specs.Serves.{Serves, Means, Guards}
use Rattle.hq_whole.specs.Tables.{Defs, kinds_by, keys_by}
use Rattle.hq_whole.proofs.Plans.{serves-from}
use Rattle.hq_planner.specs.Parts.{AreParts, IsNarrowed, are_some}
use Rattle.hq_planner.specs.Widens.{WidensPlan}
use Rattle.hq_planner.proofs.Taken.{taken-all}

map-empty : {A B : Type 0} (f : A → B) (xs : List A) → is_empty (map f xs) ≡ is_empty xs
map-empty f [] = refl
map-empty f (x ∷ xs) = refl

fit-count : (xs ys : List ℕ) (aggs : List Aggregate) → length xs ≡ length ys → fit_sources xs aggs ≡ fit_sources ys aggs
fit-count [] [] aggs e = refl
fit-count [] (y ∷ ys) aggs e = absurd (omega (arith, e))
fit-count (x ∷ xs) [] aggs e = absurd (omega (arith, e))
fit-count (x ∷ []) (y ∷ []) aggs e = refl
fit-count (x ∷ []) (y ∷ z ∷ ys) aggs e = absurd (omega (arith, e))
fit-count (x ∷ z ∷ xs) (y ∷ []) aggs e = absurd (omega (arith, e))
fit-count (x ∷ z ∷ xs) (y ∷ w ∷ ys) aggs e = refl

all-small : (a b c d : List Expr) → are_small (a ++ b ++ c ++ d) ≡ (are_small a && are_small b && are_small c && are_small d)
all-small a b c d =
    list_all-append (λ e. nat_le (parts e) 256) (a ++ b ++ c) d
    ∙ ap (λ t. t && are_small d) (list_all-append (λ e. nat_le (parts e) 256) (a ++ b) c ∙ ap (λ t. t && are_small c) (list_all-append (λ e. nat_le (parts e) 256) a b))

-- what a query says of itself, where it is q over other columns
module _ (f : ℕ → ℕ) (q : Query) (groups : List ℕ) (conds having items : List Expr) (aggregates : List Aggregate)
    (ec : map (renamed f) conds ≡ q.conds) (eg : map f groups ≡ q.groups) (ea : map (renamed_aggregate f) aggregates ≡ q.aggregates) (eh : having ≡ q.having)
    (ei : cond q.grouped items (map (renamed f) items) ≡ q.items) where
  pub items-count : length items ≡ length q.items
  items-count = by q.grouped ei
    where
      by : (b : Bool) → cond b items (map (renamed f) items) ≡ q.items → length items ≡ length q.items
      by true e = ap (λ (l : List Expr). length l) e
      by false e = sym (length-map items (renamed f)) ∙ ap (λ (l : List Expr). length l) e

  items-small : are_small items ≡ are_small q.items
  items-small = by q.grouped ei
    where
      by : (b : Bool) → cond b items (map (renamed f) items) ≡ q.items → are_small items ≡ are_small q.items
      by true e = ap are_small e
      by false e = sym (small-renamed f items) ∙ ap are_small e

  pub conds-kept : cannot_fault conds ≡ true
  conds-kept = sym (calm-renamed f conds) ∙ ap cannot_fault ec ∙ q.conds_fault_never

  pub having-kept : cannot_fault having ≡ true
  having-kept = ap cannot_fault eh ∙ q.having_faults_never

  conds-small : are_small conds ≡ are_small q.conds
  conds-small = sym (small-renamed f conds) ∙ ap are_small ec

  arguments-small : are_small (arguments aggregates) ≡ are_small (arguments q.aggregates)
  arguments-small = sym (small-renamed f (arguments aggregates)) ∙ ap are_small (sym (arguments-renamed f aggregates) ∙ ap arguments ea)

  pub small-kept : are_small (conds ++ having ++ items ++ arguments aggregates) ≡ true
  small-kept =
      all-small conds having items (arguments aggregates)
      ∙ (λ i. conds-small i && ap are_small eh i && items-small i && arguments-small i)
      ∙ sym (all-small q.conds q.having q.items (arguments q.aggregates)) ∙ q.small

  no-groups : is_empty groups ≡ is_empty q.groups
  no-groups = sym (map-empty f groups) ∙ ap (λ (l : List ℕ). is_empty l) eg

  no-aggregates : is_empty aggregates ≡ is_empty q.aggregates
  no-aggregates = sym (map-empty (renamed_aggregate f) aggregates) ∙ ap (λ (l : List Aggregate). is_empty l) ea

  pub plain-kept : (q.grouped || (is_empty groups && is_empty aggregates && is_empty having)) ≡ true
  plain-kept = (λ i. q.grouped || (no-groups i && no-aggregates i && is_empty (eh i))) ∙ q.plain

  counts-renamed : (ts : List ℕ) → fit_sources ts (map (renamed_aggregate f) aggregates) ≡ fit_sources ts aggregates
  counts-renamed [] = refl
  counts-renamed (t ∷ []) = refl
  counts-renamed (t ∷ u ∷ ts) = pairs-renamed f aggregates

  pub counts-kept : (ts : List ℕ) → length ts ≡ length q.sources → fit_sources ts aggregates ≡ true
  counts-kept ts e = sym (counts-renamed ts) ∙ ap (fit_sources ts) ea ∙ fit-count ts q.sources q.aggregates e ∙ q.counts_of_one

  groups-count : length groups ≡ length q.groups
  groups-count = sym (length-map groups f) ∙ ap (λ (l : List ℕ). length l) eg

  aggregates-count : length aggregates ≡ length q.aggregates
  aggregates-count = sym (length-map aggregates (renamed_aggregate f)) ∙ ap (λ (l : List Aggregate). length l) ea

  pub groups-kept : (not q.grouped || are_below (length groups + length aggregates) (having ++ items)) ≡ true
  groups-kept = by q.grouped ei q.group_columns
    where
      by : (b : Bool) → cond b items (map (renamed f) items) ≡ q.items → (not b || are_below (length q.groups + length q.aggregates) (q.having ++ q.items)) ≡ true → (not b || are_below (length groups + length aggregates) (having ++ items)) ≡ true
      by true e h = (λ i. are_below (groups-count i + aggregates-count i) (eh i ++ e i)) ∙ h
      by false e h = refl

  pub order-kept : (order : List SortKey) → order ≡ q.order → are_within order (length items) ≡ true
  order-kept order e = (λ i. are_within (e i) (items-count i)) ∙ q.order_columns

all-at : (p : Taken → Bool) (ts : List Taken) (vs : List ℕ) → ((v : ℕ) → p (taken_at ts v) ≡ true) → list_all p (map (taken_at ts) vs) ≡ true
all-at p ts [] h = refl
all-at p ts (v ∷ vs) h = λ i. h v i && all-at p ts vs h i

all-tables : (found : ℕ → List Kind) (ts : List Taken) (vs : List ℕ) → ((v : ℕ) → length (found v) ≡ length (taken_at ts v).columns) → list_all (λ v. is_table (found v)) vs ≡ list_all are_some (map (taken_at ts) vs)
all-tables found ts [] h = refl
all-tables found ts (v ∷ vs) h = λ i. (nat_le 1 (h v i) && nat_le (h v i) 64) && all-tables found ts vs h i

each-by : (P : ℕ → Type 0) (vs : List ℕ) → ((v : ℕ) → P v) → AllByRecursion P vs
each-by P [] h = tt
each-by P (v ∷ vs) h = (h v, each-by P vs h)

module _ (defs found : Defs) (q r : Query) (ts : List Taken) (n : IsNarrowed defs found q r ts) where
  abbrev kinds : ℕ → List Kind
  kinds = kinds_by defs

  have : HaveKinds kinds (kinds_by found) ts r.sources
  have = each-by (λ v. keys_kinds (kinds (taken_at ts v).table) (taken_at ts v).columns ≡ Some (kinds_by found v)) r.sources (λ v. (n.parts.each v).kinds_are)

  there : are_there kinds ts ≡ true
  there = ap (are_there kinds) (sym n.sources)
      ∙ all-at (λ (t : Taken). all_below (length (kinds t.table)) t.columns) ts r.sources (λ v. below-found (kinds (taken_at ts v).table) (taken_at ts v).columns (kinds_by found v) (n.parts.each v).kinds_are)

  many : (v : ℕ) → length (kinds_by found v) ≡ length (taken_at ts v).columns
  many v = length-every (slice_get (kinds (taken_at ts v).table)) (taken_at ts v).columns (kinds_by found v) (n.parts.each v).kinds_are

  pub narrowed-bound : is_bound kinds q ≡ true → is_bound (kinds_by found) r ≡ true
  narrowed-bound h = bound-taken kinds (kinds_by found) ts q r n.tables n.sources there have n.turned h (all-tables (kinds_by found) ts r.sources many ∙ ap (list_all are_some) n.sources ∙ n.parts.some)

  pub narrowed-serves : (p new : Plan) → Serves found r p → WidensPlan kinds ts p new → Serves defs q new
  narrowed-serves p new served w =
      subst (Serves defs q) (sym w.same)
      (serves-from defs q (widened_plan kinds ts p)
      (λ parts owner owned rules.
      widened-means kinds ts p parts owner rules.0
      ∙ served.means (taken_parts ts parts) owner owned (rows-fit (kinds_by found) ts parts many, keys-stand kinds (keys_by defs) (keys_by found) ts parts (λ v. (n.parts.each v).keys_are) rules.0 rules.1)
      ∙ ap (mean r) (rows-taken ts parts owner)
      ∙ mean-taken kinds q r ts (all_rows parts owner) n.tables n.sources there n.turned (tables-fit kinds parts owner rules.0))
      (widened-well_formed kinds ts p served.form w.fit w.few)
      (scans-guarded kinds (kinds_by found) q r ts p n.tables n.sources there have n.turned w.fit served.guards))

  -- the plan that is made of the query over what is taken
  pub planned-bound : (all : Defs) → all ≡ found → is_bound kinds q ≡ true → is_bound (kinds_by all) r ≡ true
  planned-bound all e h = ap (λ (d : Defs). is_bound (kinds_by d) r) e ∙ narrowed-bound h

  pub planned-serves : (all : Defs) (us : List Taken) (p new : Plan) → all ≡ found → us ≡ ts → Means all r p → is_well_formed p ≡ true → Guards all r p → WidensPlan kinds us p new → Serves defs q new
  planned-serves all us p new e f means form guards w =
      narrowed-serves p new (subst (λ (d : Defs). Serves d r p) e (serves-from all r p means form guards)) (subst (λ (vs : List Taken). WidensPlan kinds vs p new) f w)

-- the query that is made over what is taken
pub query-narrowed : (defs found : Defs) (q r : Query) (ts us : List Taken) (columns numbers : List ℕ) (width count : ℕ) → AreParts defs ts found → map (λ (t : Taken). t.table) ts ≡ q.sources → us ≡ ts
    → columns ≡ places (kinds_by defs) us → width ≡ columns_in (kinds_by defs) q.sources → count ≡ length ts → numbers ≡ range_with_len 0 count → r.sources ≡ numbers → AreTurned (place_from columns width) r q → IsNarrowed defs found q r ts
query-narrowed defs found q r ts us columns numbers width count parts tables same ec ew en enumbers er turn = record {
  parts = parts;
  tables = sym tables;
  sources = ap (map (taken_at ts)) (er ∙ enumbers ∙ ap (range_with_len 0) en) ∙ taken-all ts;
  turned = subst (λ (f : ℕ → ℕ). AreTurned f r q) (λ i. place_from ((ec ∙ ap (places (kinds_by defs)) same) i) (ew i)) turn;
}

pub numbers-many : (ts : List Taken) (q : Query) (numbers : List ℕ) (count : ℕ) → map (λ (t : Taken). t.table) ts ≡ q.sources → count ≡ length ts → numbers ≡ range_with_len 0 count → length numbers ≡ length q.sources
numbers-many ts q numbers count e c is =
    ap (λ (l : List ℕ). length l) is ∙ length-range_with_len 0 count ∙ c ∙ sym (length-map ts (λ (t : Taken). t.table)) ∙ ap (λ (l : List ℕ). length l) e
