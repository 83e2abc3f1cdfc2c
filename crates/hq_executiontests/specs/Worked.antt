-- The worked queries, over the tables u (id, g), v (k, g), shop (id, city) and sale (shop, day, amount).
--     AreWorked kinds      these are the kinds of the four tables
use Rattle.std.specs.Prelude.{◌≡◌, ℕ, zero, suc, pos, Bool, true, false, List, [], ◌∷◌, Some, None}
use Rattle.hq_value.specs.declared.kind.Kind.{Kind}
use Rattle.hq_value.specs.declared.kind.Kind.TheVariants as kind
use Rattle.hq_value.specs.declared.value.Value.TheVariants as value
use Rattle.hq_value.specs.declared.operator.CompareKind.TheVariants as compare
use Rattle.hq_algebra.specs.declared.expr.Expr.{Expr}
use Rattle.hq_algebra.specs.declared.expr.Expr.TheVariants as e
use Rattle.hq_algebra.specs.declared.aggregate.Aggregate.{Aggregate}
use Rattle.hq_algebra.specs.declared.aggregate.Aggregate.TheVariants as agg
use Rattle.hq_algebra.specs.declared.op.SortKey.{SortKey}
use Rattle.hq_executiontests.specs.declared.queries.Parts.{Parts}

-- these are the kinds of the four tables
pub record AreWorked (kinds : ℕ → List Kind) : Type 0 where
  pub u : kinds 0 ≡ kind.Int ∷ kind.Int ∷ []
  pub v : kinds 1 ≡ kind.Int ∷ kind.Int ∷ []
  pub shop : kinds 2 ≡ kind.Int ∷ kind.Text ∷ []
  pub sale : kinds 3 ≡ kind.Int ∷ kind.Int ∷ kind.Int ∷ []

abbrev pub equal : ℕ → ℕ → Expr
equal i j = e.Compare compare.Equal (e.Column i) (e.Column j)

abbrev pub down : ℕ → SortKey
down i = record { column = i; descending = true }

abbrev pub ungrouped : List ℕ → List Expr → List Expr → Parts
ungrouped sources conds items = record { sources = sources; conds = conds; grouped = false; groups = []; aggregates = []; having = []; items = items; order = []; limit = None }

abbrev pub grouped : List ℕ → List Expr → List ℕ → List Aggregate → List Expr → List Expr → List SortKey → Parts
grouped sources conds groups aggregates having items order = record { sources = sources; conds = conds; grouped = true; groups = groups; aggregates = aggregates; having = having; items = items; order = order; limit = Some 10 }

-- SELECT u.id, v.k FROM u JOIN v ON u.g = v.g
abbrev pub met : Parts
met = ungrouped (0 ∷ 1 ∷ []) (equal 1 3 ∷ []) (e.Column 0 ∷ e.Column 2 ∷ [])

-- SELECT u.g, v.g FROM u JOIN v ON u.id = v.k
abbrev pub met_by_keys : Parts
met_by_keys = ungrouped (0 ∷ 1 ∷ []) (equal 0 2 ∷ []) (e.Column 1 ∷ e.Column 3 ∷ [])

-- SELECT u.id, v.k FROM u JOIN v ON u.g = v.g WHERE v.k < 5
abbrev pub few_met : Parts
few_met = ungrouped (0 ∷ 1 ∷ []) (equal 1 3 ∷ e.Compare compare.Less (e.Column 2) (e.Literal (value.Int (pos 5))) ∷ []) (e.Column 0 ∷ e.Column 2 ∷ [])

-- SELECT x.amount FROM sale x JOIN shop s ON x.shop = s.id WHERE s.city = city
abbrev pub in_city : List ℕ → Parts
in_city city = ungrouped (3 ∷ 2 ∷ []) (equal 0 3 ∷ e.Compare compare.Equal (e.Column 4) (e.Literal (value.Text city)) ∷ []) (e.Column 2 ∷ [])

-- SELECT u.id, x.amount FROM u, sale x, v WHERE u.g = v.k AND v.g = x.shop
abbrev pub chained : Parts
chained = ungrouped (0 ∷ 3 ∷ 1 ∷ []) (equal 1 5 ∷ equal 6 2 ∷ []) (e.Column 0 ∷ e.Column 4 ∷ [])

-- SELECT s.city, SUM(x.amount) AS total FROM sale x JOIN shop s ON x.shop = s.id WHERE x.day >= 20240102
-- GROUP BY s.city HAVING SUM(x.amount) > 10 ORDER BY total DESC LIMIT 10
abbrev pub sold : Parts
sold = grouped (3 ∷ 2 ∷ []) (equal 0 3 ∷ e.Compare compare.AtLeast (e.Column 1) (e.Literal (value.Int (pos 20240102))) ∷ []) (4 ∷ []) (agg.Sum (e.Column 2) ∷ [])
    (e.Compare compare.Greater (e.Column 1) (e.Literal (value.Int (pos 10))) ∷ []) (e.Column 0 ∷ e.Column 1 ∷ []) (down 1 ∷ [])
