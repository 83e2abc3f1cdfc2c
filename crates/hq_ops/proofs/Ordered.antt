-- The order of a sort is total, and only equal rows tie.
use Rattle.std.proofs.Common.{◌≡◌, ℕ, Bool, true, false, cond, List, [], ◌∷◌, sym, ◌∙◌, ap}
use Rattle.std.specs.Ordering.{is_lt, on, flip_args, ordering_then}
use Rattle.std.specs.Cmp.{IsTotalOrder}
use Rattle.std.specs.declared.cmp.Ordering.{Ordering}
use Rattle.std.specs.declared.cmp.Ordering.TheVariants.{Less, Equal, Greater}
use Rattle.std.proofs.lemmas.Cmp.{on_total, then_total, back_total}
use Rattle.std.proofs.lemmas.Map.Lookups.{CmpEqualImpliesEq}
use Rattle.hq_value.specs.Order.{value_cmp, row_cmp}
use Rattle.hq_value.proofs.Order.{value_total, row_total, row_exact}
use Rattle.hq_algebra.specs.declared.op.SortKey.{SortKey}
use Rattle.hq_algebra.specs.Eval.{column}
use Rattle.hq_meaning.specs.Rows.{Row, key_cmp, order_cmp}

key_total : (key : SortKey) → IsTotalOrder (key_cmp key)
key_total key = by key.descending
  where
    by : (b : Bool) → IsTotalOrder (cond b (flip_args (on (λ (row : Row). column row key.column) value_cmp)) (on (λ (row : Row). column row key.column) value_cmp))
    by true = back_total (on_total (λ (row : Row). column row key.column) value_total)
    by false = on_total (λ (row : Row). column row key.column) value_total

pub order_total : (order : List SortKey) → IsTotalOrder (order_cmp order)
order_total [] = row_total
order_total (key ∷ keys) = then_total (key_total key) (order_total keys)

pub order_exact : (order : List SortKey) → CmpEqualImpliesEq (order_cmp order)
order_exact [] a b h = row_exact a b h
order_exact (key ∷ keys) a b h = order_exact keys a b (by (key_cmp key a b) (order_cmp keys a b) h)
  where
    by : (o p : Ordering) → ordering_then o p ≡ Equal → p ≡ Equal
    by Less p h = cc
    by Equal p h = h
    by Greater p h = cc

-- the order of one ascending key
abbrev pub ascending_cmp : ℕ → Row → Row → Ordering
ascending_cmp place a b = ordering_then (value_cmp (column a place) (column b place)) (row_cmp a b)

pub ascends_by : (key : SortKey) → key.descending ≡ false → (a b : Row) (o : Ordering) → o ≡ ascending_cmp key.column a b → is_lt o ≡ is_lt (order_cmp (key ∷ []) a b)
ascends_by key up a b o e = ap is_lt (e ∙ sym (ap (λ (d : Bool). ordering_then (cond d (flip_args (on (λ (row : Row). column row key.column) value_cmp)) (on (λ (row : Row). column row key.column) value_cmp) a b) (row_cmp a b)) up))
