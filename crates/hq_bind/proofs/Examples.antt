-- The definitions at work: statements that are refused, and what others are bound to.
-- Table 0 is t (a INT, b TEXT), table 1 is u (a INT, c BOOL).
use Rattle.std.proofs.Common.{◌≡◌, ℕ, List, [], ◌∷◌, codes, Option, Some, None, true, false, pos, refl}
use denote.Hole.Carrier.{hidden}
use Rattle.hq_value.specs.declared.kind.Kind.{Kind}
use Rattle.hq_value.specs.declared.kind.Kind.TheVariants as kind
use Rattle.hq_value.specs.declared.table.Column.{Column}
use Rattle.hq_value.specs.declared.operator.CompareKind.TheVariants as compare
use Rattle.hq_value.specs.declared.operator.ArithKind.TheVariants as step
use Rattle.hq_value.specs.declared.value.Value.TheVariants as value
use Rattle.hq_value.specs.Tables.{Definition}
use Rattle.hq_expr.specs.declared.tree.Literal.{Literal}
use Rattle.hq_expr.specs.declared.tree.Literal.TheVariants as lit
use Rattle.hq_expr.specs.declared.tree.AggregateKind.TheVariants as ak
use Rattle.hq_expr.specs.declared.tree.SqlExpr.{SqlExpr}
use Rattle.hq_expr.specs.declared.tree.SqlExpr.TheVariants as e
use Rattle.hq_expr.specs.declared.tree.SqlExpr.TheBlock.{hidden-the_row-SqlExpr-0}
use Rattle.hq_sql.specs.declared.tree.Statement.{Statement}
use Rattle.hq_sql.specs.declared.tree.Statement.TheVariants as statement
use Rattle.hq_sql.specs.declared.tree.InsertInput.TheVariants as input
use Rattle.hq_sql.specs.declared.tree.SelectStatement.{SelectStatement}
use Rattle.hq_sql.specs.declared.tree.SourceName.{SourceName}
use Rattle.hq_sql.specs.declared.tree.Item.{Item}
use Rattle.hq_sql.specs.declared.tree.OrderBy.TheVariants as by
use Rattle.hq_algebra.specs.declared.expr.Expr.TheVariants as expr
use Rattle.hq_algebra.specs.declared.aggregate.Aggregate.TheVariants as agg
use Rattle.hq_bind.specs.declared.refusal.Refusal.TheVariants as refused
use Rattle.hq_bind.specs.Scope.{Defs}
use Rattle.hq_bind.specs.Findings.{of_aggregate, of_two, of_compared, of_not, of_null_test}
use Rattle.hq_bind.specs.Faults.{first_refusal}
use Rattle.hq_bind.specs.Bound.{bound_of, query, values}

abbrev a : List ℕ
a = codes "a"

abbrev b : List ℕ
b = codes "b"

abbrev c : List ℕ
c = codes "c"

abbrev t : List ℕ
t = codes "t"

abbrev u : List ℕ
u = codes "u"

abbrev x : List ℕ
x = codes "x"

abbrev y : List ℕ
y = codes "y"

abbrev column : List ℕ → Kind → Column
column name k = record { name = name; kind = k; not_null = false }

abbrev defs : Defs
defs = (0, record { name = t; columns = column a kind.Int ∷ column b kind.Text ∷ []; keys = [] })
    ∷ (1, record { name = u; columns = column a kind.Int ∷ column c kind.Bool ∷ []; keys = [] }) ∷ []

abbrev bare : List ℕ → SqlExpr
bare name = e.Column (record { source = None; column = name })

abbrev item : SqlExpr → Item
item of = record { expr = of; alias = None }

abbrev from : List ℕ → Option (List ℕ) → SourceName
from table alias = record { table = table; alias = alias }

abbrev select : List Item → List SourceName → List SqlExpr → SelectStatement
select items sources conds = record { distinct = false; items = items; sources = sources; conds = conds; groups = []; having = None; keys = []; limit = None }

-- SELECT c FROM t
no_column : first_refusal defs (statement.Select (select (item (bare c) ∷ []) (from t None ∷ []) [])) ≡ Some refused.UndefinedColumn
no_column = refl

-- SELECT a FROM t x, t y
two_columns : first_refusal defs (statement.Select (select (item (bare a) ∷ []) (from t (Some x) ∷ from t (Some y) ∷ []) [])) ≡ Some refused.AmbiguousColumn
two_columns = refl

-- SELECT a FROM t, t
same_sources : first_refusal defs (statement.Select (select (item (bare a) ∷ []) (from t None ∷ from t None ∷ []) [])) ≡ Some refused.DuplicateSource
same_sources = refl

-- SELECT a FROM t WHERE a = 'x'
other_kind : first_refusal defs (statement.Select (select (item (bare a) ∷ []) (from t None ∷ []) (e.Compare compare.Equal (bare a) (e.Literal (lit.Text x)) ∷ []))) ≡ Some refused.TypeMismatch
unfolding hidden-the_row-SqlExpr-0 hidden of_compared
other_kind = refl

-- SELECT a, COUNT(*) FROM t
not_grouped : first_refusal defs (statement.Select (select (item (bare a) ∷ item e.CountAll ∷ []) (from t None ∷ []) [])) ≡ Some refused.NotGrouped
unfolding of_aggregate
not_grouped = refl

-- SELECT * FROM x, x: no such table, before all else
no_table : first_refusal defs (statement.Select (select [] (from x None ∷ from x None ∷ []) [])) ≡ Some refused.UndefinedTable
no_table = refl

-- INSERT INTO t (b, b) VALUES (1): named twice, before the kinds
named_twice : first_refusal defs (statement.Insert (record { name = t; columns = b ∷ b ∷ []; input = input.Tuples ((lit.Int (pos 1) ∷ []) ∷ []) })) ≡ Some refused.DuplicateColumn
named_twice = refl

-- CREATE TABLE z (a INT, a INT)
made_twice : first_refusal defs (statement.Create (record { name = x; columns = column a kind.Int ∷ column a kind.Int ∷ []; keys = [] })) ≡ Some refused.DuplicateColumn
made_twice = refl

-- INSERT INTO t (b) VALUES ('x'), (NULL) puts NULL where no value is named
rows_made : bound_of defs (statement.Insert (record { name = t; columns = b ∷ []; input = input.Tuples ((lit.Text x ∷ []) ∷ (lit.Null ∷ []) ∷ []) }))
    ≡ values 0 ((value.Null ∷ value.Text x ∷ []) ∷ (value.Null ∷ value.Null ∷ []) ∷ [])
rows_made = refl

-- SELECT b, SUM(a) FROM t GROUP BY b, b HAVING SUM(a) = 3 ORDER BY 2 DESC, 2 LIMIT 1
grouped : Statement
grouped = statement.Select (record {
  distinct = false;
  items = item (bare b) ∷ item (e.Aggregate ak.Sum (bare a)) ∷ [];
  sources = from t None ∷ [];
  conds = [];
  groups = record { source = Some t; column = b } ∷ record { source = None; column = b } ∷ [];
  having = Some (e.Compare compare.Equal (e.Aggregate ak.Sum (bare a)) (e.Literal (lit.Int (pos 3))));
  keys = record { by = by.Place 2; descending = true } ∷ record { by = by.Place 2; descending = false } ∷ [];
  limit = Some 1;
})

grouped_is_bound : first_refusal defs grouped ≡ None
unfolding grouped hidden-the_row-SqlExpr-0 hidden of_compared of_aggregate
grouped_is_bound = refl

-- its group and its order are named once, and HAVING's aggregate is the second
grouped_is : bound_of defs grouped ≡ query (record {
  sources = 0 ∷ [];
  conds = [];
  grouped = true;
  groups = 1 ∷ [];
  aggregates = agg.Sum (expr.Column 0) ∷ agg.Sum (expr.Column 0) ∷ [];
  having = expr.Compare compare.Equal (expr.Column 2) (expr.Literal (value.Int (pos 3))) ∷ [];
  items = expr.Column 0 ∷ expr.Column 1 ∷ [];
  distinct = false;
  order = record { column = 1; descending = true } ∷ [];
  limit = Some 1;
})
unfolding grouped hidden-the_row-SqlExpr-0 hidden of_compared of_aggregate
grouped_is = refl
