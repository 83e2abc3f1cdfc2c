-- Which queries fit their tables.
--     query_kinds kinds q        the kinds of the query's columns, none where a column is out of range or a kind
--                                does not fit; `kinds` are those of each table's columns, by its number
use Rattle.std.specs.Prelude.{ℕ, Bool, ◌&&◌, List, ◌++◌, Option, Some, flat_map, if◌then◌else◌}
use Rattle.std.specs.List.{list_all}
use Rattle.hq_value.specs.declared.kind.Kind.{Kind}
use Rattle.hq_value.specs.declared.kind.Kind.TheVariants as kind
use Rattle.hq_algebra.specs.declared.expr.Expr.{Expr}
use Rattle.hq_algebra.specs.declared.query.Query.{Query}
use Rattle.hq_algebra.specs.Kinds.{◌>>=◌, is_of, expr_kind, some_if}
use Rattle.hq_algebra.specs.Operators.{keys_kinds, items_kinds, values_kinds}

-- all columns of all sources in order
abbrev pub product_kinds : (ℕ → List Kind) → Query → List Kind
product_kinds kinds q = flat_map kinds q.sources

-- the columns of the groups: the keys, and then the aggregates
abbrev pub group_kinds : List Kind → Query → Option (List Kind)
group_kinds kinds q = do
  keys ← keys_kinds kinds q.groups
  values ← values_kinds kinds q.aggregates
  Some (keys ++ values)

-- what HAVING and the select list speak of
abbrev pub seen_kinds : List Kind → Query → Option (List Kind)
seen_kinds kinds q = if q.grouped then group_kinds kinds q else Some kinds

abbrev pub are_conditions : List Kind → List Expr → Bool
are_conditions kinds es = list_all (λ e. is_of kind.Bool (expr_kind kinds e)) es

-- the kinds of the query's columns, none where a column is out of range or a kind does not fit
abbrev pub query_kinds : (ℕ → List Kind) → Query → Option (List Kind)
query_kinds kinds q = do
  seen ← seen_kinds (product_kinds kinds q) q
  found ← items_kinds seen q.items
  some_if (are_conditions (product_kinds kinds q) q.conds && are_conditions seen q.having) found
