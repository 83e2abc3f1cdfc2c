-- What a query means fits the kinds that it tells.
use Rattle.std.proofs.Common.{◌≡◌, ℕ, Bool, true, false, cond, ◌&&◌, List, [], ◌∷◌, ◌++◌, map, flat_map, Option, Some, None, refl, sym, ◌∙◌, ap, subst, IsTrue}
use Rattle.std.specs.List.{list_all}
use Rattle.hq_value.specs.declared.value.Value.{Value}
use Rattle.hq_value.specs.declared.kind.Kind.{Kind}
use Rattle.hq_value.specs.declared.kind.Kind.TheVariants as kind
use Rattle.hq_algebra.specs.declared.expr.Expr.{Expr}
use Rattle.hq_algebra.specs.declared.aggregate.Aggregate.{Aggregate}
use Rattle.hq_algebra.specs.declared.aggregate.Aggregate.TheVariants as agg
use Rattle.hq_algebra.specs.declared.kinds.ExprKind.{ExprKind}
use Rattle.hq_algebra.specs.declared.kinds.ExprKind.TheVariants as typed
use Rattle.hq_algebra.specs.declared.query.Query.{Query}
use Rattle.hq_algebra.specs.Eval.{value_at, is_true_at}
use Rattle.hq_algebra.specs.Kinds.{◌>>=◌, every, same_kind, is_of, expr_kind, item_kind, some_if, aggregate_kind}
use Rattle.hq_algebra.specs.Operators.{keys_kinds, items_kinds, values_kinds}
use Rattle.hq_algebra.specs.Queries.{product_kinds, group_kinds, seen_kinds, are_conditions, query_kinds}
use Rattle.hq_value.specs.Kinds.{IsOfKind, Fits}
use Rattle.hq_meaning.specs.Rows.{Row, firsts, order_cmp}
use Rattle.hq_meaning.specs.Aggregates.{added, aggregate_of}
use Rattle.hq_meaning.specs.Groups.{key_of, group_keys, members, group_row, grouped}
use Rattle.hq_meaning.specs.Mean.{Rows, Database, product, source_rows, group_rows, having_rows, item_rows, distinct_rows, finished, faults, answer_of, mean}
use Rattle.hq_fits.specs.Supplied.{AreFit}
use Rattle.hq_fits.specs.Taken.{are_taken}
use Rattle.hq_fits.proofs.Values.{IsTyped, value-typed}
use Rattle.hq_fits.proofs.Lists.{fits-append, all-filter, all-firsts, all-sorted, all-limited, all-flat_map, all-map}
use Rattle.hq_fits.proofs.Aggregates.{if-int, or_zero-int, all-int, count-int, sum-int, min-kind, max-kind, added-kind, added-kind_max}
use Rattle.hq_fits.proofs.Operating.{both_true, every-fits, group-keys-fit}

-- the product
product-fit : (kinds : ℕ → List Kind) (db : Database) → ((t : ℕ) → AreFit (kinds t) (db t)) → (ts : List ℕ) → AreFit (flat_map kinds ts) (product (map db ts))
product-fit kinds db fit [] = (tt, tt)
product-fit kinds db fit (t ∷ ts) = all-flat_map (Fits (kinds t ++ flat_map kinds ts)) (λ l. map (λ r. l ++ r) (product (map db ts))) (Fits (kinds t))
    (λ l f. all-map (Fits (kinds t ++ flat_map kinds ts)) (Fits (flat_map kinds ts)) (λ r. l ++ r) (λ r g. fits-append (kinds t) (flat_map kinds ts) l r f g) (product (map db ts)) (product-fit kinds db fit ts)) (db t) (fit t)

-- the groups
module _ (kinds : List Kind) where
  aggregate-fit : (rows : List Row) → AreFit kinds rows → (a : Aggregate) (k : Kind) → aggregate_kind kinds a ≡ Some k → IsOfKind k (aggregate_of a rows)
  aggregate-fit rows fit agg.CountAll k h = let int : kind.Int ≡ k = cc in subst (λ l. IsOfKind l (aggregate_of agg.CountAll rows)) int (or_zero-int _ (all-int (map (added agg.CountAll) rows)))
  aggregate-fit rows fit (agg.Count e) k h = subst (λ l. IsOfKind l (aggregate_of (agg.Count e) rows)) (if-int _ k h) (or_zero-int _ (count-int e (map (added (agg.Count e)) rows)))
  aggregate-fit rows fit (agg.Sum e) k h = subst (λ l. IsOfKind l (aggregate_of (agg.Sum e) rows)) (if-int _ k h) (sum-int e (map (added (agg.Sum e)) rows))
  aggregate-fit rows fit (agg.Min e) k h = min-kind e k (map (added (agg.Min e)) rows) (added-kind kinds e k h rows fit)
  aggregate-fit rows fit (agg.Max e) k h = max-kind e k (map (added (agg.Max e)) rows) (added-kind_max kinds e k h rows fit)

  grouped-fit : (q : Query) (seen : List Kind) → group_kinds kinds q ≡ Some seen → (rows : List Row) → AreFit kinds rows → AreFit seen (grouped q.groups q.aggregates rows)
  grouped-fit q seen h rows fit = by (keys_kinds kinds q.groups) (values_kinds kinds q.aggregates) refl refl h
    where
      by : (o p : Option (List Kind)) → keys_kinds kinds q.groups ≡ o → values_kinds kinds q.aggregates ≡ p → (o >>= (λ keys. p >>= (λ values. Some (keys ++ values)))) ≡ Some seen → AreFit seen (grouped q.groups q.aggregates rows)
      by None p e g h = cc
      by (Some ks) None e g h = cc
      by (Some ks) (Some vs) e g h =
          let same : ks ++ vs ≡ seen = cc in
          subst (λ l. AreFit l (grouped q.groups q.aggregates rows)) same
          (all-map (Fits (ks ++ vs)) (Fits ks) (group_row q.groups q.aggregates rows)
          (λ k f. fits-append ks vs k (map (λ a. aggregate_of a (members (key_of q.groups) k rows)) q.aggregates) f
          (every-fits (aggregate_kind kinds) (λ a. aggregate_of a (members (key_of q.groups) k rows)) (aggregate-fit (members (key_of q.groups) k rows) (all-filter (Fits kinds) _ rows fit)) q.aggregates vs g))
          (group_keys q.groups rows) (group-keys-fit kinds q.groups ks e rows fit))

  seen-fit : (q : Query) (seen : List Kind) → seen_kinds kinds q ≡ Some seen → (rows : List Row) → AreFit kinds rows → AreFit seen (group_rows q rows)
  seen-fit q seen h rows fit = by q.grouped h
    where
      by : (b : Bool) → cond b (group_kinds kinds q) (Some kinds) ≡ Some seen → AreFit seen (cond b (grouped q.groups q.aggregates rows) rows)
      by true e = grouped-fit q seen e rows fit
      by false e = let same : kinds ≡ seen = cc in subst (λ l. AreFit l rows) same fit

-- the items
taken-kind : (k : Kind) (o : ExprKind) (v : Value) → is_of k o ≡ true → IsTyped o v → IsOfKind k v
taken-kind k (typed.Of j) v h f = subst (λ l. IsOfKind l v) (one j k h) f
  where
    one : (j k : Kind) → same_kind j k ≡ true → j ≡ k
    one kind.Bool kind.Bool h = refl
    one kind.Bool kind.Int h = cc
    one kind.Bool kind.Text h = cc
    one kind.Int kind.Bool h = cc
    one kind.Int kind.Int h = refl
    one kind.Int kind.Text h = cc
    one kind.Text kind.Bool h = cc
    one kind.Text kind.Int h = cc
    one kind.Text kind.Text h = refl
taken-kind k typed.Null v h f = subst (IsOfKind k) (sym f) tt
taken-kind k typed.Wrong v h f = cc

taken-fit : (seen : List Kind) (row : Row) → Fits seen row → (items : List Expr) (kinds : List Kind) → are_taken seen items kinds ≡ true → Fits kinds (map (λ e. value_at e row) items)
taken-fit seen row fit [] [] h = tt
taken-fit seen row fit [] (k ∷ kinds) h = cc
taken-fit seen row fit (e ∷ items) [] h = cc
taken-fit seen row fit (e ∷ items) (k ∷ kinds) h =
    let b : (is_of k (expr_kind seen e) ≡ true) × (are_taken seen items kinds ≡ true) = both_true (is_of k (expr_kind seen e)) _ h in
    (taken-kind k (expr_kind seen e) (value_at e row) b.0 (value-typed seen row fit e), taken-fit seen row fit items kinds b.1)

pub told-taken : (seen : List Kind) (items : List Expr) (out : List Kind) → items_kinds seen items ≡ Some out → are_taken seen items out ≡ true
told-taken seen [] [] h = refl
told-taken seen [] (k ∷ out) h = cc
told-taken seen (e ∷ items) out h = by (expr_kind seen e) (every (λ e. item_kind (expr_kind seen e)) items) refl out h (told-taken seen items)
  where
    one : (o : ExprKind) (k : Kind) → item_kind o ≡ Some k → is_of k o ≡ true
    one (typed.Of kind.Bool) k g = let e : kind.Bool ≡ k = cc in ap (λ l. same_kind kind.Bool l) (sym e)
    one (typed.Of kind.Int) k g = let e : kind.Int ≡ k = cc in ap (λ l. same_kind kind.Int l) (sym e)
    one (typed.Of kind.Text) k g = let e : kind.Text ≡ k = cc in ap (λ l. same_kind kind.Text l) (sym e)
    one typed.Null k g = refl
    one typed.Wrong k g = cc

    step : (o : ExprKind) (i : Option Kind) (p : Option (List Kind)) → expr_kind seen e ≡ o → item_kind o ≡ i → (out : List Kind) → (i >>= (λ y. p >>= (λ ys. Some (y ∷ ys)))) ≡ Some out → ((ys : List Kind) → p ≡ Some ys → are_taken seen items ys ≡ true) → are_taken seen (e ∷ items) out ≡ true
    step o None p e g out h rest = cc
    step o (Some y) None e g out h rest = cc
    step o (Some y) (Some ys) e g [] h rest = cc
    step o (Some y) (Some ys) e g (k ∷ ks) h rest = let u : y ≡ k = cc in let v : ys ≡ ks = cc in λ i. (ap (is_of k) e ∙ one o k (g ∙ ap Some u)) i && rest ks (ap Some v) i

    by : (o : ExprKind) (p : Option (List Kind)) → expr_kind seen e ≡ o → (out : List Kind) → (item_kind (expr_kind seen e) >>= (λ y. p >>= (λ ys. Some (y ∷ ys)))) ≡ Some out → ((ys : List Kind) → p ≡ Some ys → are_taken seen items ys ≡ true) → are_taken seen (e ∷ items) out ≡ true
    by o p g out h rest = step o (item_kind o) p g refl out (ap (λ o. item_kind o >>= (λ y. p >>= (λ ys. Some (y ∷ ys)))) (sym g) ∙ h) rest

module _ (kinds : ℕ → List Kind) (q : Query) (db : Database) (fit : (t : ℕ) → AreFit (kinds t) (db t)) where
  pub finished-fit : (seen out : List Kind) → seen_kinds (product_kinds kinds q) q ≡ Some seen → are_taken seen q.items out ≡ true → AreFit out (finished q (source_rows q db))
  finished-fit seen out h taken = all-limited (Fits out) q.limit _ (all-sorted (Fits out) (order_cmp q.order) (distinct_rows q (item_rows q rows)) (by q.distinct))
    where
      rows : List Row
      rows = source_rows q db

      given : AreFit (product_kinds kinds q) rows
      given = all-filter (Fits (product_kinds kinds q)) (λ row. list_all (λ e. is_true_at e row) q.conds) (product (map db q.sources)) (product-fit kinds db fit q.sources)

      items : AreFit out (item_rows q rows)
      items = all-map (Fits out) (Fits seen) (λ row. map (λ e. value_at e row) q.items) (λ row f. taken-fit seen row f q.items out taken) (having_rows q rows)
          (all-filter (Fits seen) (λ row. list_all (λ e. is_true_at e row) q.having) (group_rows q rows) (seen-fit (product_kinds kinds q) q seen h rows given))

      by : (b : Bool) → AreFit out (cond b (firsts (item_rows q rows)) (item_rows q rows))
      by true = all-firsts (Fits out) (item_rows q rows) items
      by false = items

  answered : (b : Bool) (xs rows : List Row) → answer_of b xs ≡ Rows rows → xs ≡ rows
  answered true xs rows h = cc
  answered false xs rows h = cc

  pub mean-fit : (seen out : List Kind) (rows : List Row) → seen_kinds (product_kinds kinds q) q ≡ Some seen → IsTrue (are_taken seen q.items out) → mean q db ≡ Rows rows → AreFit out rows
  mean-fit seen out rows h taken e = subst (AreFit out) (answered (faults q (source_rows q db)) (finished q (source_rows q db)) rows e) (finished-fit seen out h taken)

  pub mean-told : (out : List Kind) (rows : List Row) → query_kinds kinds q ≡ Some out → mean q db ≡ Rows rows → AreFit out rows
  mean-told out rows h e = by (seen_kinds (product_kinds kinds q) q) refl h
    where
      last : (b : Bool) (found : List Kind) → some_if b found ≡ Some out → found ≡ out
      last true found h = cc
      last false found h = cc

      items : (seen : List Kind) → seen_kinds (product_kinds kinds q) q ≡ Some seen → (p : Option (List Kind)) → items_kinds seen q.items ≡ p → (p >>= (λ found. some_if (are_conditions (product_kinds kinds q) q.conds && are_conditions seen q.having) found)) ≡ Some out → AreFit out rows
      items seen s None g h = cc
      items seen s (Some found) g h =
          mean-fit seen out rows s (told-taken seen q.items out (g ∙ ap Some (last _ found h))) e

      by : (o : Option (List Kind)) → seen_kinds (product_kinds kinds q) q ≡ o → (o >>= (λ seen. items_kinds seen q.items >>= (λ found. some_if (are_conditions (product_kinds kinds q) q.conds && are_conditions seen q.having) found))) ≡ Some out → AreFit out rows
      by None s h = cc
      by (Some seen) s h = items seen s (items_kinds seen q.items) refl h
