-- What a statement is bound to.
--     placed cs e                     an expression over the columns of the sources
--     over_groups cs groups before e  an expression over the groups' columns and then the aggregates, of which these stand before
--     bound_query defs s              a SELECT, as the fields of a query
--     bound_of defs s                 a statement
use Rattle.std.specs.Prelude.{ℕ, ◌+◌, ◌-◌, ◌==◌, Bool, true, false, List, [], ◌∷◌, ◌++◌, length, map, flat_map, fold, Option, Some, None, position, unwrap_or, if◌then◌else◌}
use Rattle.std.specs.List.{list_any}
use Rattle.std.specs.Option.{option_map_or, option_to_list}
use Rattle.hq_value.specs.Tables.{Definition, same_names}
use Rattle.hq_value.specs.declared.table.Column.{Column}
use Rattle.hq_value.specs.declared.value.Value.{Value}
use Rattle.hq_value.specs.declared.value.Value.TheVariants as value
use Rattle.hq_expr.specs.declared.tree.Literal.{Literal}
use Rattle.hq_expr.specs.declared.tree.ColumnRef.{ColumnRef}
use Rattle.hq_expr.specs.declared.tree.AggregateKind.{AggregateKind}
use Rattle.hq_expr.specs.declared.tree.AggregateKind.TheVariants as ak
use Rattle.hq_expr.specs.declared.tree.SqlExpr.{SqlExpr, Row_of-SqlExpr, end_of-SqlExpr, more_of-SqlExpr}
use Rattle.hq_expr.specs.declared.tree.SqlExpr.TheVariants as e
use Rattle.hq_sql.specs.Grammar.{given}
use Rattle.hq_sql.specs.declared.tree.Statement.{Statement}
use Rattle.hq_sql.specs.declared.tree.Statement.TheVariants as statement
use Rattle.hq_sql.specs.declared.tree.CreateStatement.{CreateStatement}
use Rattle.hq_sql.specs.declared.tree.InsertStatement.{InsertStatement}
use Rattle.hq_sql.specs.declared.tree.InsertInput.{InsertInput}
use Rattle.hq_sql.specs.declared.tree.InsertInput.TheVariants as input
use Rattle.hq_sql.specs.declared.tree.SelectStatement.{SelectStatement}
use Rattle.hq_sql.specs.declared.tree.SourceName.{SourceName}
use Rattle.hq_sql.specs.declared.tree.Item.{Item}
use Rattle.hq_sql.specs.declared.tree.OrderKey.{OrderKey}
use Rattle.hq_sql.specs.declared.tree.OrderBy.{OrderBy}
use Rattle.hq_sql.specs.declared.tree.OrderBy.TheVariants as by
use Rattle.hq_algebra.specs.declared.expr.Expr.{Expr}
use Rattle.hq_algebra.specs.declared.expr.Expr.TheVariants as expr
use Rattle.hq_algebra.specs.declared.aggregate.Aggregate.{Aggregate}
use Rattle.hq_algebra.specs.declared.aggregate.Aggregate.TheVariants as agg
use Rattle.hq_algebra.specs.declared.op.SortKey.{SortKey}
use Rattle.hq_algebra.specs.declared.query.Query.{Query}
use Rattle.hq_bind.specs.Scope.{Name, Defs, table_named, place_of}
use Rattle.hq_bind.specs.Targets.{places, value_of, row_of}
use Rattle.hq_bind.specs.Reading.{read_columns, read_items, read_groups, item_exprs, item_findings, is_grouped}
use Rattle.hq_bind.specs.Faults.{has_name}
use Rattle.hq_bind.specs.declared.scope.SourceColumn.{SourceColumn}
use Rattle.hq_bind.specs.declared.bound.Outputs.{Outputs}
use Rattle.hq_bind.specs.declared.bound.Bound.{Bound}
use Rattle.hq_bind.specs.declared.bound.Bound.TheVariants as bound

-- ---- expressions

-- the place that a reference names; 0 where it names none, which is refused
abbrev pub placed_column : List SourceColumn → ColumnRef → ℕ
placed_column cs r = unwrap_or (place_of cs r) 0

-- over the columns of the sources; no aggregate stands in it
abbrev mutual
  pub placed : List SourceColumn → SqlExpr → Expr
  placed cs (e.Literal v) = expr.Literal (value_of v)
  placed cs (e.Column r) = expr.Column (placed_column cs r)
  placed cs e.CountAll = expr.Literal value.Null
  placed cs (e.Aggregate' k _ of) = expr.Literal value.Null
  placed cs (e.Arith' k _ left _ right) = expr.Arith k (placed_in cs left) (placed_in cs right)
  placed cs (e.Compare' k _ left _ right) = expr.Compare k (placed_in cs left) (placed_in cs right)
  placed cs (e.And' _ left _ right) = expr.And (placed_in cs left) (placed_in cs right)
  placed cs (e.Or' _ left _ right) = expr.Or (placed_in cs left) (placed_in cs right)
  placed cs (e.Not' _ of) = expr.Not (placed_in cs of)
  placed cs (e.IsNull' _ of) = expr.IsNull (placed_in cs of)

  pub placed_in : {m : _} → List SourceColumn → Row_of-SqlExpr m → Expr
  placed_in cs end_of-SqlExpr = expr.Literal value.Null
  placed_in cs (more_of-SqlExpr x rest) = placed cs x

abbrev pub placed_item : List SourceColumn → Item → Expr
placed_item cs i = placed cs i.expr

abbrev pub aggregate_of : AggregateKind → Expr → Aggregate
aggregate_of ak.Count x = agg.Count x
aggregate_of ak.Sum x = agg.Sum x
aggregate_of ak.Min x = agg.Min x
aggregate_of ak.Max x = agg.Max x

-- the aggregates in it, from left to right
abbrev mutual
  pub aggregates_in : List SourceColumn → SqlExpr → List Aggregate
  aggregates_in cs (e.Literal v) = []
  aggregates_in cs (e.Column r) = []
  aggregates_in cs e.CountAll = agg.CountAll ∷ []
  aggregates_in cs (e.Aggregate' k _ of) = aggregate_of k (placed_in cs of) ∷ []
  aggregates_in cs (e.Arith' k _ left _ right) = aggregates_of cs left ++ aggregates_of cs right
  aggregates_in cs (e.Compare' k _ left _ right) = aggregates_of cs left ++ aggregates_of cs right
  aggregates_in cs (e.And' _ left _ right) = aggregates_of cs left ++ aggregates_of cs right
  aggregates_in cs (e.Or' _ left _ right) = aggregates_of cs left ++ aggregates_of cs right
  aggregates_in cs (e.Not' _ of) = aggregates_of cs of
  aggregates_in cs (e.IsNull' _ of) = aggregates_of cs of

  pub aggregates_of : {m : _} → List SourceColumn → Row_of-SqlExpr m → List Aggregate
  aggregates_of cs end_of-SqlExpr = []
  aggregates_of cs (more_of-SqlExpr x rest) = aggregates_in cs x

abbrev pub group_place : List ℕ → ℕ → Option ℕ
group_place groups column = position (λ p. p == column) groups

-- the place of a reference's column among the groups'
abbrev pub group_column : List SourceColumn → List ℕ → ColumnRef → ℕ
group_column cs groups r = unwrap_or (group_place groups (placed_column cs r)) 0

-- the place of the next aggregate behind these, which stand behind the groups' columns
abbrev pub next_place : List ℕ → List Aggregate → ℕ
next_place groups before = length groups + length before

abbrev pub aggregate_column : List ℕ → List Aggregate → Expr
aggregate_column groups before = expr.Column (next_place groups before)

-- over the groups' columns and then the aggregates, of which these stand before its own
abbrev mutual
  pub over_groups : List SourceColumn → List ℕ → List Aggregate → SqlExpr → Expr
  over_groups cs groups before (e.Literal v) = expr.Literal (value_of v)
  over_groups cs groups before (e.Column r) = expr.Column (group_column cs groups r)
  over_groups cs groups before e.CountAll = expr.Column (next_place groups before)
  over_groups cs groups before (e.Aggregate' k _ of) = expr.Column (next_place groups before)
  over_groups cs groups before (e.Arith' k _ left _ right) = expr.Arith k (over_in cs groups before left) (over_in cs groups (before ++ aggregates_of cs left) right)
  over_groups cs groups before (e.Compare' k _ left _ right) = expr.Compare k (over_in cs groups before left) (over_in cs groups (before ++ aggregates_of cs left) right)
  over_groups cs groups before (e.And' _ left _ right) = expr.And (over_in cs groups before left) (over_in cs groups (before ++ aggregates_of cs left) right)
  over_groups cs groups before (e.Or' _ left _ right) = expr.Or (over_in cs groups before left) (over_in cs groups (before ++ aggregates_of cs left) right)
  over_groups cs groups before (e.Not' _ of) = expr.Not (over_in cs groups before of)
  over_groups cs groups before (e.IsNull' _ of) = expr.IsNull (over_in cs groups before of)

  pub over_in : {m : _} → List SourceColumn → List ℕ → List Aggregate → Row_of-SqlExpr m → Expr
  over_in cs groups before end_of-SqlExpr = expr.Literal value.Null
  over_in cs groups before (more_of-SqlExpr x rest) = over_groups cs groups before x

-- expressions one after another, each behind the aggregates of those before it
abbrev pub all_over : List SourceColumn → List ℕ → List Aggregate → List SqlExpr → List Expr
all_over cs groups before [] = []
all_over cs groups before (x ∷ xs) = over_groups cs groups before x ∷ all_over cs groups (before ++ aggregates_in cs x) xs

abbrev pub all_aggregates : List SourceColumn → List SqlExpr → List Aggregate
all_aggregates cs es = flat_map (aggregates_in cs) es

-- ---- queries

-- the fields of a query
pub record QueryParts : Type 0 where
  pub sources : List ℕ
  pub conds : List Expr
  pub grouped : Bool
  pub groups : List ℕ
  pub aggregates : List Aggregate
  pub having : List Expr
  pub items : List Expr
  pub distinct : Bool
  pub order : List SortKey
  pub limit : Option ℕ

abbrev pub parts_of : Query → QueryParts
parts_of q = record {
  sources = q.sources;
  conds = q.conds;
  grouped = q.grouped;
  groups = q.groups;
  aggregates = q.aggregates;
  having = q.having;
  items = q.items;
  distinct = q.distinct;
  order = q.order;
  limit = q.limit;
}

abbrev pub number_of : Defs → SourceName → List ℕ
number_of defs s = option_map_or (λ (d : ℕ × Definition). d.0 ∷ []) (table_named defs s.table) []

abbrev pub name_place : List Item → Name → Option ℕ
name_place items name = position (has_name name) items

-- the output column that a key names, from 0
abbrev pub key_column : List Item → OrderBy → ℕ
key_column items (by.Column name) = unwrap_or (name_place items name) 0
key_column items (by.Place place) = place - 1

abbrev pub sort_key : List Item → OrderKey → SortKey
sort_key items key = record { column = key_column items key.by; descending = key.descending }

abbrev pub is_ordered : List SortKey → ℕ → Bool
is_ordered keys column = list_any (λ (k : SortKey). k.column == column) keys

-- a key behind the others, unless its column is there
abbrev pub with_key : List SortKey → SortKey → List SortKey
with_key keys key = if is_ordered keys key.column then keys else keys ++ key ∷ []

-- each column once, where it is first named
abbrev pub order_of : List Item → List OrderKey → List SortKey
order_of items keys = fold (λ kept key. with_key kept (sort_key items key)) [] keys

-- of a query that is grouped
abbrev pub grouped_outputs : List SourceColumn → List ℕ → List Item → List SqlExpr → Outputs
grouped_outputs cs groups items having = record {
  items = all_over cs groups [] (item_exprs items);
  aggregates = all_aggregates cs (item_exprs items) ++ all_aggregates cs having;
  having = all_over cs groups (all_aggregates cs (item_exprs items)) having;
}

-- of a query that is not grouped, which has no aggregates and no HAVING
abbrev pub plain_outputs : List SourceColumn → List Item → Outputs
plain_outputs cs items = record { items = map (placed_item cs) items; aggregates = []; having = [] }

-- the output columns, the aggregates, and HAVING
abbrev pub outputs : List SourceColumn → List ℕ → Bool → List Item → List SqlExpr → Outputs
outputs cs groups grouped items having = if grouped then grouped_outputs cs groups items having else plain_outputs cs items

abbrev pub query_parts : SelectStatement → List ℕ → List Expr → Bool → List ℕ → Outputs → List SortKey → QueryParts
query_parts s sources conds grouped groups outputs order = record {
  sources = sources;
  conds = conds;
  grouped = grouped;
  groups = groups;
  aggregates = outputs.aggregates;
  having = outputs.having;
  items = outputs.items;
  distinct = s.distinct;
  order = order;
  limit = s.limit;
}

abbrev pub bound_over : Defs → SelectStatement → List SourceColumn → List Item → List ℕ → Bool → QueryParts
bound_over defs s cs items groups grouped =
    query_parts s (flat_map (number_of defs) s.sources) (map (placed cs) s.conds) grouped groups (outputs cs groups grouped items (given s.having)) (order_of items s.keys)

abbrev pub bound_query : Defs → SelectStatement → QueryParts
bound_query defs s =
    let cs = read_columns defs s in
    let items = read_items cs s in
    let groups = read_groups cs s in
    bound_over defs s cs items groups (is_grouped (item_findings cs groups items) s)

-- ---- statements

-- the place of the column of this name
abbrev pub key_found : List Column → Name → Option ℕ
key_found columns name = position (λ (c : Column). same_names c.name name) columns

abbrev pub key_place : List Column → Name → ℕ
key_place columns name = unwrap_or (key_found columns name) 0

-- the table that a CREATE TABLE makes
abbrev pub created : CreateStatement → Definition
created c = record { name = c.name; columns = c.columns; keys = map (key_place c.columns) c.keys }

-- the parts of what a statement is bound to
pub data BoundParts : Type 0 where
  made : Definition → BoundParts
  query : QueryParts → BoundParts
  values : ℕ → List (List Value) → BoundParts
  insert_query : ℕ → List (Option ℕ) → QueryParts → BoundParts
  -- it is not bound
  unbound : BoundParts

abbrev pub values_bound : ℕ → List Column → List Name → List (List Literal) → BoundParts
values_bound table columns names tuples = values table (map (row_of (places columns names)) tuples)

abbrev pub bound_tuples : ℕ × Definition → List Name → List (List Literal) → BoundParts
bound_tuples table names tuples = values_bound table.0 table.1.columns names tuples

abbrev pub bound_rows : Defs → ℕ × Definition → List Name → SelectStatement → BoundParts
bound_rows defs table names s = insert_query table.0 (places table.1.columns names) (bound_query defs s)

abbrev pub bound_input : Defs → ℕ × Definition → List Name → InsertInput → BoundParts
bound_input defs table names (input.Tuples tuples) = bound_tuples table names tuples
bound_input defs table names (input.Select s) = bound_rows defs table names s

abbrev pub bound_insert : Defs → Option (ℕ × Definition) → InsertStatement → BoundParts
bound_insert defs None i = unbound
bound_insert defs (Some table) i = bound_input defs table i.columns i.input

abbrev pub bound_of : Defs → Statement → BoundParts
bound_of defs (statement.Create c) = made (created c)
bound_of defs (statement.Insert i) = bound_insert defs (table_named defs i.name) i
bound_of defs (statement.Select s) = query (bound_query defs s)
bound_of defs _ = unbound

-- the parts of a bound statement
abbrev pub parts_bound : Bound → BoundParts
parts_bound (bound.Create def) = made def
parts_bound (bound.Query q) = query (parts_of q)
parts_bound (bound.Values table rows) = values table rows.items
parts_bound (bound.InsertQuery table places q) = insert_query table places (parts_of q)

-- CREATE TABLE, INSERT and SELECT are bound
abbrev pub IsBindable : Statement → Type 0
IsBindable (statement.Create c) = Unit {0}
IsBindable (statement.Insert i) = Unit {0}
IsBindable (statement.Select s) = Unit {0}
IsBindable _ = ⊥
