-- A query means the same over tables that have the same rows.
use Rattle.std.proofs.Common.{◌≡◌, ℕ, zero, suc, length, Bool, true, false, cond, ◌||◌, List, [], ◌∷◌, ◌++◌, map, refl, ◌∙◌, ap}
use Rattle.std.specs.List.{list_any}
use Rattle.std.specs.Ordering.{on, flip_args, ordering_then}
use Rattle.std.specs.Cmp.{IsTotalOrder}
use Rattle.std.specs.declared.cmp.Ordering.{Ordering}
use Rattle.std.specs.declared.cmp.Ordering.TheVariants.{Less, Equal, Greater}
use Rattle.std.proofs.lemmas.Cmp.{on_total, then_total, back_total}
use Rattle.std.proofs.lemmas.Map.Lookups.{CmpEqualImpliesEq}
use Rattle.hq_value.specs.declared.value.Value.{Value}
use Rattle.hq_value.specs.Sorting.{with_item}
use Rattle.hq_value.specs.Order.{value_cmp, SameBag}
use Rattle.hq_value.proofs.Order.{value_total, row_total, row_exact}
use Rattle.hq_value.proofs.Sorting.{commute}
use Rattle.hq_algebra.specs.declared.aggregate.Aggregate.{Aggregate}
use Rattle.hq_algebra.specs.declared.op.SortKey.{SortKey}
use Rattle.hq_algebra.specs.declared.query.Query.{Query}
use Rattle.hq_algebra.specs.Eval.{column, faults_at}
use Rattle.hq_meaning.specs.Rows.{Row, firsts, key_cmp, order_cmp, ordered, limited}
use Rattle.hq_meaning.specs.Aggregates.{added, over, together, aggregate_of, exact, arguments_fault, leaves_64, argument_faults}
use Rattle.hq_meaning.specs.Groups.{members, key_of, keys_found, group_keys, group_row, grouped, some_leaves_64}
use Rattle.hq_meaning.specs.Mean.{Database, product, source_rows, group_rows, having_rows, distinct_rows, finished, faults, answer_of, mean}
use Rattle.hq_meaning.proofs.Bags.{respects, any-SameBag, SameBag-refl, SameBag-equal, SameBag-trans, SameBag-map, SameBag-filter, SameBag-pairs, SameBag-firsts}
use Rattle.hq_meaning.proofs.Together.{together-swap}

-- the order of ORDER BY, ties by row order
pub key_total : (key : SortKey) → IsTotalOrder (key_cmp key)
key_total key = by key.descending
  where
    by : (b : Bool) → IsTotalOrder (cond b (flip_args (on (λ (row : Row). column row key.column) value_cmp)) (on (λ (row : Row). column row key.column) value_cmp))
    by true = back_total (on_total (λ (row : Row). column row key.column) value_total)
    by false = on_total (λ (row : Row). column row key.column) value_total

pub order_total : (order : List SortKey) → IsTotalOrder (order_cmp order)
order_total [] = row_total
order_total (key ∷ keys) = then_total (key_total key) (order_total keys)

pub order_exact : (order : List SortKey) → CmpEqualImpliesEq (order_cmp order)
order_exact [] a b h = row_exact a b h
order_exact (key ∷ keys) a b h = order_exact keys a b (by (key_cmp key a b) (order_cmp keys a b) h)
  where
    by : (o p : Ordering) → ordering_then o p ≡ Equal → p ≡ Equal
    by Less p h = cc
    by Equal p h = h
    by Greater p h = cc

pub ordered-SameBag : (order : List SortKey) (xs ys : List Row) → SameBag xs ys → ordered order xs ≡ ordered order ys
ordered-SameBag order = respects (ordered order) (with_item (order_cmp order)) (λ x l. refl) (commute (order_total order) (order_exact order))

-- groups
pub over-SameBag : (a : Aggregate) (g : Row → Value) (xs ys : List Row) → SameBag xs ys → over a (map g xs) ≡ over a (map g ys)
over-SameBag a g = respects (λ l. over a (map g l)) (λ x v. together a (g x) v) (λ x l. refl) (λ x y v. together-swap a (g x) (g y) v)

pub aggregate-SameBag : (a : Aggregate) (xs ys : List Row) → SameBag xs ys → aggregate_of a xs ≡ aggregate_of a ys
aggregate-SameBag a xs ys same = ap (exact a) (over-SameBag a (added a) xs ys same)

pub keys_found-SameBag : (n : ℕ) (key : Row → Row) (xs ys : List Row) → SameBag xs ys → SameBag (keys_found n key xs) (keys_found n key ys)
keys_found-SameBag zero key xs ys same = SameBag-refl ([] ∷ [])
keys_found-SameBag (suc n) key xs ys same = SameBag-firsts _ _ (SameBag-map key xs ys same)

pub group_keys-SameBag : (keys : List ℕ) (xs ys : List Row) → SameBag xs ys → SameBag (group_keys keys xs) (group_keys keys ys)
group_keys-SameBag keys = keys_found-SameBag (length keys) (key_of keys)

module _ (keys : List ℕ) (aggs : List Aggregate) (xs ys : List Row) (same : SameBag xs ys) where
  in_group : (a : Aggregate) (k : Row) → aggregate_of a (members (key_of keys) k xs) ≡ aggregate_of a (members (key_of keys) k ys)
  in_group a k = aggregate-SameBag a _ _ (SameBag-filter _ xs ys same)

  pub grouped-SameBag : SameBag (grouped keys aggs xs) (grouped keys aggs ys)
  grouped-SameBag = SameBag-trans _ (map (group_row keys aggs xs) (group_keys keys ys)) _
      (SameBag-map (group_row keys aggs xs) _ _ (group_keys-SameBag keys xs ys same))
      (SameBag-equal _ _ (λ i. map (λ k. k ++ map (λ a. in_group a k i) aggs) (group_keys keys ys)))

  pub some_leaves_64-SameBag : some_leaves_64 keys aggs xs ≡ some_leaves_64 keys aggs ys
  some_leaves_64-SameBag =
      any-SameBag _ _ _ (group_keys-SameBag keys xs ys same)
      ∙ (λ i. list_any (λ k. list_any (λ a. leaves_64 a (in_group a k i)) aggs) (group_keys keys ys))

-- the steps of a query
module _ (q : Query) where
  pub group_rows-SameBag : (xs ys : List Row) → SameBag xs ys → SameBag (group_rows q xs) (group_rows q ys)
  group_rows-SameBag xs ys same = by q.grouped
    where
      by : (b : Bool) → SameBag (cond b (grouped q.groups q.aggregates xs) xs) (cond b (grouped q.groups q.aggregates ys) ys)
      by true = grouped-SameBag q.groups q.aggregates xs ys same
      by false = same

  pub having_rows-SameBag : (xs ys : List Row) → SameBag xs ys → SameBag (having_rows q xs) (having_rows q ys)
  having_rows-SameBag xs ys same = SameBag-filter _ _ _ (group_rows-SameBag xs ys same)

  distinct_rows-SameBag : (xs ys : List Row) → SameBag xs ys → SameBag (distinct_rows q xs) (distinct_rows q ys)
  distinct_rows-SameBag xs ys same = by q.distinct
    where
      by : (b : Bool) → SameBag (cond b (firsts xs) xs) (cond b (firsts ys) ys)
      by true = SameBag-firsts xs ys same
      by false = same

  pub finished-SameBag : (xs ys : List Row) → SameBag xs ys → finished q xs ≡ finished q ys
  finished-SameBag xs ys same = ap (limited q.limit) (ordered-SameBag q.order _ _ (distinct_rows-SameBag _ _ (SameBag-map _ _ _ (having_rows-SameBag xs ys same))))

  pub faults-SameBag : (xs ys : List Row) → SameBag xs ys → faults q xs ≡ faults q ys
  faults-SameBag xs ys same =
      λ i. (by q.grouped i || any-SameBag (λ row. list_any (λ e. faults_at e row) q.having) _ _ (group_rows-SameBag xs ys same) i) || any-SameBag (λ row. list_any (λ e. faults_at e row) q.items) _ _ (having_rows-SameBag xs ys same) i
    where
      by : (b : Bool) → cond b (arguments_fault q.aggregates xs || some_leaves_64 q.groups q.aggregates xs) false ≡ cond b (arguments_fault q.aggregates ys || some_leaves_64 q.groups q.aggregates ys) false
      by true = λ i. any-SameBag (λ row. list_any (λ a. argument_faults a row) q.aggregates) xs ys same i || some_leaves_64-SameBag q.groups q.aggregates xs ys same i
      by false = refl

product-SameBag : (db eb : Database) → ((t : ℕ) → SameBag (db t) (eb t)) → (ts : List ℕ) → SameBag (product (map db ts)) (product (map eb ts))
product-SameBag db eb same [] = SameBag-refl ([] ∷ [])
product-SameBag db eb same (t ∷ ts) = SameBag-pairs _ _ _ _ (same t) (product-SameBag db eb same ts)

pub source_rows-SameBag : (q : Query) (db eb : Database) → ((t : ℕ) → SameBag (db t) (eb t)) → SameBag (source_rows q db) (source_rows q eb)
source_rows-SameBag q db eb same = SameBag-filter _ _ _ (product-SameBag db eb same q.sources)

-- tables with the same rows give the same answer
pub mean-SameBag : (q : Query) (db eb : Database) → ((t : ℕ) → SameBag (db t) (eb t)) → mean q db ≡ mean q eb
mean-SameBag q db eb same =
    let s : SameBag (source_rows q db) (source_rows q eb) = source_rows-SameBag q db eb same in
    λ i. answer_of (faults-SameBag q _ _ s i) (finished-SameBag q _ _ s i)
