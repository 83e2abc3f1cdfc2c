-- What stands in an expression.
--     has_column x         some column
--     counts_rows x        a COUNT, or a SUM whose argument has no column
use Rattle.std.specs.Prelude.{Bool, true, false, not, ◌||◌}
use Rattle.hq_expr.specs.declared.tree.AggregateKind.{AggregateKind}
use Rattle.hq_expr.specs.declared.tree.AggregateKind.TheVariants as aggregate_kind
use Rattle.hq_expr.specs.declared.tree.SqlExpr.{SqlExpr, Row_of-SqlExpr, end_of-SqlExpr, more_of-SqlExpr}
use Rattle.hq_expr.specs.declared.tree.SqlExpr.TheVariants as e
use Rattle.hq_expr.specs.declared.uses.Uses.{Uses}

abbrev pub none : Uses
none = record { column = false; count = false }

unfoldable pub either : Uses → Uses → Uses
either a b = record { column = a.column || b.column; count = a.count || b.count }

abbrev pub counts : AggregateKind → Uses → Bool
counts aggregate_kind.Count of = true
counts aggregate_kind.Sum of = not of.column
counts _ of = of.count

unfoldable pub aggregated : AggregateKind → Uses → Uses
aggregated kind of = record { column = of.column; count = counts kind of }

abbrev mutual
  pub uses : SqlExpr → Uses
  uses (e.Literal v) = none
  uses (e.Column r) = record { column = true; count = false }
  uses e.CountAll = record { column = false; count = true }
  uses (e.Aggregate' kind _ of) = aggregated kind (uses_in of)
  uses (e.Arith' kind _ left _ right) = either (uses_in left) (uses_in right)
  uses (e.Compare' kind _ left _ right) = either (uses_in left) (uses_in right)
  uses (e.And' _ left _ right) = either (uses_in left) (uses_in right)
  uses (e.Or' _ left _ right) = either (uses_in left) (uses_in right)
  uses (e.Not' _ of) = uses_in of
  uses (e.IsNull' _ of) = uses_in of

  pub uses_in : {m : _} → Row_of-SqlExpr m → Uses
  uses_in end_of-SqlExpr = none
  uses_in (more_of-SqlExpr x rest) = uses x

abbrev pub has_column : SqlExpr → Bool
has_column x = (uses x).column

abbrev pub counts_rows : SqlExpr → Bool
counts_rows x = (uses x).count
