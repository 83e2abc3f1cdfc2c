-- The columns of partial aggregates, and the values of final ones, have their kinds.
use Rattle.std.proofs.Common.{◌≡◌, ℕ, ◌+◌, Bool, true, false, cond, List, [], ◌∷◌, ◌++◌, map, flat_map, length, length-append, append_assoc, Option, Some, None, slice_get, ℤ, refl, sym, ◌∙◌, ap, subst}
use Rattle.std.specs.List.{AllByRecursion}
use Rattle.std.specs.Ordering.{is_gt}
use Rattle.std.specs.declared.cmp.Ordering.{Ordering}
use Rattle.hq_value.specs.declared.value.Value.{Value}
use Rattle.hq_value.specs.declared.value.Value.TheVariants as value
use Rattle.hq_value.specs.declared.kind.Kind.{Kind}
use Rattle.hq_value.specs.declared.kind.Kind.TheVariants as kind
use Rattle.hq_value.specs.Order.{value_cmp}
use Rattle.hq_algebra.specs.declared.expr.Expr.{Expr}
use Rattle.hq_algebra.specs.declared.aggregate.Aggregate.{Aggregate}
use Rattle.hq_algebra.specs.declared.aggregate.Aggregate.TheVariants as agg
use Rattle.hq_algebra.specs.Eval.{column}
use Rattle.hq_algebra.specs.Kinds.{◌>>=◌, column_kind, expr_kind, item_kind, some_if, aggregate_kind, partial_columns, layout}
use Rattle.hq_algebra.specs.Operators.{values_kinds}
use Rattle.hq_value.specs.Kinds.{IsOfKind, Fits}
use Rattle.hq_meaning.specs.Rows.{Row}
use Rattle.hq_meaning.specs.Aggregates.{added, from_number, sooner, falling_cmp, over, or_zero}
use Rattle.hq_meaning.specs.Halves.{halves}
use Rattle.hq_meaning.specs.Operators.{columns_of, width, read, final_value, final_values}
use Rattle.hq_fits.specs.Supplied.{AreFit}
use Rattle.hq_fits.proofs.Values.{IsTyped, value-typed, item-typed, column-typed}
use Rattle.hq_fits.proofs.Lists.{fits-append, all-map}

pub if-int : (b : Bool) (k : Kind) → some_if b kind.Int ≡ Some k → kind.Int ≡ k
if-int true k h = cc
if-int false k h = cc

-- counts and sums are Ints or NULL
from_number-int : (o : Option ℤ) → IsOfKind kind.Int (from_number o)
from_number-int None = tt
from_number-int (Some n) = tt

pub or_zero-int : (v : Value) → IsOfKind kind.Int v → IsOfKind kind.Int (or_zero v)
or_zero-int value.Null h = tt
or_zero-int (value.Int n) h = tt
or_zero-int (value.Bool b) h = absurd h
or_zero-int (value.Text s) h = absurd h

pub all-int : (vs : List Value) → IsOfKind kind.Int (over agg.CountAll vs)
all-int [] = tt
all-int (v ∷ vs) = from_number-int _

pub count-int : (e : Expr) (vs : List Value) → IsOfKind kind.Int (over (agg.Count e) vs)
count-int e [] = tt
count-int e (v ∷ vs) = from_number-int _

pub sum-int : (e : Expr) (vs : List Value) → IsOfKind kind.Int (over (agg.Sum e) vs)
sum-int e [] = tt
sum-int e (v ∷ vs) = from_number-int _

-- a least or a greatest value is one of the values
sooner-kind : (R : Value → Value → Ordering) (k : Kind) (a b : Value) → IsOfKind k a → IsOfKind k b → IsOfKind k (sooner R a b)
sooner-kind R k a b g h = by (is_gt (R a b))
  where
    by : (c : Bool) → IsOfKind k (cond c b a)
    by true = h
    by false = g

null-kind : (k : Kind) → IsOfKind k value.Null
null-kind k = tt

pub min-kind : (e : Expr) (k : Kind) (vs : List Value) → AllByRecursion (IsOfKind k) vs → IsOfKind k (over (agg.Min e) vs)
min-kind e k [] a = tt
min-kind e k (v ∷ vs) a = sooner-kind value_cmp k v (over (agg.Min e) vs) a.0 (min-kind e k vs a.1)

pub max-kind : (e : Expr) (k : Kind) (vs : List Value) → AllByRecursion (IsOfKind k) vs → IsOfKind k (over (agg.Max e) vs)
max-kind e k [] a = tt
max-kind e k (v ∷ vs) a = sooner-kind falling_cmp k v (over (agg.Max e) vs) a.0 (max-kind e k vs a.1)

module _ (kinds : List Kind) where
  pub added-kind : (e : Expr) (k : Kind) → item_kind (expr_kind kinds e) ≡ Some k → (rows : List Row) → AreFit kinds rows → AllByRecursion (IsOfKind k) (map (added (agg.Min e)) rows)
  added-kind e k h rows fit = all-map (IsOfKind k) (Fits kinds) (added (agg.Min e)) (λ row f. item-typed (expr_kind kinds e) k _ h (value-typed kinds row f e)) rows fit

  pub added-kind_max : (e : Expr) (k : Kind) → item_kind (expr_kind kinds e) ≡ Some k → (rows : List Row) → AreFit kinds rows → AllByRecursion (IsOfKind k) (map (added (agg.Max e)) rows)
  added-kind_max e k h rows fit = all-map (IsOfKind k) (Fits kinds) (added (agg.Max e)) (λ row f. item-typed (expr_kind kinds e) k _ h (value-typed kinds row f e)) rows fit

  -- the columns of a partial aggregate
  halves-int : (v : Value) → IsOfKind kind.Int v → Fits (kind.Int ∷ kind.Int ∷ []) (halves v)
  halves-int value.Null h = (tt, (tt, tt))
  halves-int (value.Int n) h = (tt, (tt, tt))
  halves-int (value.Bool b) h = absurd h
  halves-int (value.Text s) h = absurd h

  columns-fit : (a : Aggregate) (k : Kind) → aggregate_kind kinds a ≡ Some k → (rows : List Row) → AreFit kinds rows → Fits (partial_columns a k) (columns_of a (over a (map (added a) rows)))
  columns-fit agg.CountAll k h rows fit = let int : kind.Int ≡ k = cc in subst (λ l. Fits (l ∷ []) (or_zero (over agg.CountAll (map (added agg.CountAll) rows)) ∷ [])) int (or_zero-int _ (all-int (map (added agg.CountAll) rows)), tt)
  columns-fit (agg.Count e) k h rows fit = subst (λ l. Fits (l ∷ []) (or_zero (over (agg.Count e) (map (added (agg.Count e)) rows)) ∷ [])) (if-int _ k h) (or_zero-int _ (count-int e (map (added (agg.Count e)) rows)), tt)
  columns-fit (agg.Sum e) k h rows fit = subst (λ l. Fits (l ∷ l ∷ []) (halves (over (agg.Sum e) (map (added (agg.Sum e)) rows)))) (if-int _ k h) (halves-int _ (sum-int e (map (added (agg.Sum e)) rows)))
  columns-fit (agg.Min e) k h rows fit = (min-kind e k (map (added (agg.Min e)) rows) (added-kind e k h rows fit), tt)
  columns-fit (agg.Max e) k h rows fit = (max-kind e k (map (added (agg.Max e)) rows) (added-kind_max e k h rows fit), tt)

  pub layout-fit : (aggs : List Aggregate) (cols : List Kind) → layout kinds aggs ≡ Some cols → (rows : List Row) → AreFit kinds rows → Fits cols (flat_map (λ a. columns_of a (over a (map (added a) rows))) aggs)
  layout-fit [] [] h rows fit = tt
  layout-fit [] (c ∷ cols) h rows fit = cc
  layout-fit (a ∷ aggs) cols h rows fit = by (aggregate_kind kinds a) (layout kinds aggs) refl h (λ ks e. layout-fit aggs ks e rows fit)
    where
      by : (o : Option Kind) (p : Option (List Kind)) → aggregate_kind kinds a ≡ o → (o >>= (λ k. p >>= (λ ks. Some (partial_columns a k ++ ks)))) ≡ Some cols
          → ((ks : List Kind) → p ≡ Some ks → Fits ks (flat_map (λ a. columns_of a (over a (map (added a) rows))) aggs)) → Fits cols (flat_map (λ a. columns_of a (over a (map (added a) rows))) (a ∷ aggs))
      by None p e g rest = cc
      by (Some k) None e g rest = cc
      by (Some k) (Some ks) e g rest =
          let same : partial_columns a k ++ ks ≡ cols = cc in
          subst (λ l. Fits l (flat_map (λ a. columns_of a (over a (map (added a) rows))) (a ∷ aggs))) same
          (fits-append (partial_columns a k) ks (columns_of a (over a (map (added a) rows))) (flat_map (λ a. columns_of a (over a (map (added a) rows))) aggs) (columns-fit a k e rows fit) (rest ks refl))

  -- the value of a final aggregate, whose columns begin at a place where its kind stands
  read-kind : (at : ℕ) (k : Kind) → slice_get kinds at ≡ Some k → (rows : List Row) → AreFit kinds rows → AllByRecursion (IsOfKind k) (map (λ row. column row at) rows)
  read-kind at k h rows fit = all-map (IsOfKind k) (Fits kinds) (λ row. column row at) (λ row f. subst (λ o. IsTyped (column_kind o) (column row at)) h (column-typed kinds row f at)) rows fit

  final-kind : (a : Aggregate) (k : Kind) (at : ℕ) → aggregate_kind kinds a ≡ Some k → slice_get kinds at ≡ Some k → (rows : List Row) → AreFit kinds rows → IsOfKind k (final_value a at rows)
  final-kind agg.CountAll k at h e rows fit = let int : kind.Int ≡ k = cc in subst (λ l. IsOfKind l (final_value agg.CountAll at rows)) int (or_zero-int _ (all-int (map (read agg.CountAll at) rows)))
  final-kind (agg.Count x) k at h e rows fit = subst (λ l. IsOfKind l (final_value (agg.Count x) at rows)) (if-int _ k h) (or_zero-int _ (count-int x (map (read (agg.Count x) at) rows)))
  final-kind (agg.Sum x) k at h e rows fit = subst (λ l. IsOfKind l (final_value (agg.Sum x) at rows)) (if-int _ k h) (sum-int x (map (read (agg.Sum x) at) rows))
  final-kind (agg.Min x) k at h e rows fit = min-kind x k (map (read (agg.Min x) at) rows) (read-kind at k e rows fit)
  final-kind (agg.Max x) k at h e rows fit = max-kind x k (map (read (agg.Max x) at) rows) (read-kind at k e rows fit)

  get-here : (pre : List Kind) (k : Kind) (rest : List Kind) → slice_get (pre ++ k ∷ rest) (length pre) ≡ Some k
  get-here [] k rest = refl
  get-here (p ∷ pre) k rest = get-here pre k rest

  first-column : (a : Aggregate) (k : Kind) (rest pre : List Kind) → slice_get (pre ++ (partial_columns a k ++ rest)) (length pre) ≡ Some k
  first-column agg.CountAll k rest pre = get-here pre k rest
  first-column (agg.Count e) k rest pre = get-here pre k rest
  first-column (agg.Sum e) k rest pre = get-here pre k (k ∷ rest)
  first-column (agg.Min e) k rest pre = get-here pre k rest
  first-column (agg.Max e) k rest pre = get-here pre k rest

  length-columns : (a : Aggregate) (k : Kind) → length (partial_columns a k) ≡ width a
  length-columns agg.CountAll k = refl
  length-columns (agg.Count e) k = refl
  length-columns (agg.Sum e) k = refl
  length-columns (agg.Min e) k = refl
  length-columns (agg.Max e) k = refl

  pub finals-fit : (aggs : List Aggregate) (values cols pre : List Kind) → values_kinds kinds aggs ≡ Some values → layout kinds aggs ≡ Some cols → kinds ≡ pre ++ cols → (rows : List Row) → AreFit kinds rows → Fits values (final_values aggs (length pre) rows)
  finals-fit [] [] cols pre h g e rows fit = tt
  finals-fit [] (v ∷ values) cols pre h g e rows fit = cc
  finals-fit (a ∷ aggs) values cols pre h g e rows fit =
      by (aggregate_kind kinds a) (values_kinds kinds aggs) (layout kinds aggs) refl h g (λ vs cs k ep eq there. finals-fit aggs vs cs (pre ++ partial_columns a k) ep eq there rows fit)
    where
      by : (o : Option Kind) (p q : Option (List Kind)) → aggregate_kind kinds a ≡ o
          → (o >>= (λ k. p >>= (λ ks. Some (k ∷ ks)))) ≡ Some values → (o >>= (λ k. q >>= (λ ks. Some (partial_columns a k ++ ks)))) ≡ Some cols
          → ((vs cs : List Kind) (k : Kind) → p ≡ Some vs → q ≡ Some cs → kinds ≡ (pre ++ partial_columns a k) ++ cs → Fits vs (final_values aggs (length (pre ++ partial_columns a k)) rows))
          → Fits values (final_values (a ∷ aggs) (length pre) rows)
      by None p q eo hv hc rest = cc
      by (Some k) None q eo hv hc rest = cc
      by (Some k) (Some vs) None eo hv hc rest = cc
      by (Some k) (Some vs) (Some cs) eo hv hc rest =
          let same : k ∷ vs ≡ values = cc in
          let laid : partial_columns a k ++ cs ≡ cols = cc in
          let there : kinds ≡ pre ++ (partial_columns a k ++ cs) = e ∙ ap (λ l. pre ++ l) (sym laid) in
          let at : length (pre ++ partial_columns a k) ≡ length pre + width a = length-append pre (partial_columns a k) ∙ ap (λ n. length pre + n) (length-columns a k) in
          subst (λ l. Fits l (final_values (a ∷ aggs) (length pre) rows)) same (
            final-kind a k (length pre) eo (ap (λ l. slice_get l (length pre)) there ∙ first-column a k cs pre) rows fit,
            subst (λ n. Fits vs (final_values aggs n rows)) at (rest vs cs k refl refl (there ∙ sym (append_assoc pre (partial_columns a k) cs))),
          )
