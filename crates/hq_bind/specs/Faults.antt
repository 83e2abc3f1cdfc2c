-- What is wrong with a statement, test by test, and the first refusal.
--     query_faults defs s      of a SELECT
--     insert_refusal ..        of an INSERT: its own tests together with those of its SELECT
--     create_refusal c         of a CREATE TABLE
--     first_refusal defs s     the first refusal in order
use Rattle.std.specs.Prelude.{ℕ, ◌+◌, Bool, true, false, not, ◌&&◌, ◌||◌, ◌==◌, nat_lt, nat_le, List, [], ◌∷◌, ◌++◌, length, map, Option, Some, None, is_none, count_by, if◌then◌else◌}
use Rattle.std.specs.List.{list_any}
use Rattle.hq_value.specs.Tables.{Definition, are_distinct, same_names, is_column}
use Rattle.hq_value.specs.declared.kind.Kind.{Kind}
use Rattle.hq_value.specs.declared.kind.Kind.TheVariants as kind
use Rattle.hq_value.specs.declared.table.Column.{Column}
use Rattle.hq_expr.specs.declared.tree.ColumnRef.{ColumnRef}
use Rattle.hq_expr.specs.declared.tree.Literal.{Literal}
use Rattle.hq_expr.specs.declared.tree.SqlExpr.{SqlExpr}
use Rattle.hq_expr.specs.declared.tree.SqlExpr.TheVariants as e
use Rattle.hq_sql.specs.Grammar.{given}
use Rattle.hq_sql.specs.declared.tree.Statement.{Statement}
use Rattle.hq_sql.specs.declared.tree.Statement.TheVariants as statement
use Rattle.hq_sql.specs.declared.tree.CreateStatement.{CreateStatement}
use Rattle.hq_sql.specs.declared.tree.InsertStatement.{InsertStatement}
use Rattle.hq_sql.specs.declared.tree.InsertInput.{InsertInput}
use Rattle.hq_sql.specs.declared.tree.InsertInput.TheVariants as input
use Rattle.hq_sql.specs.declared.tree.SelectStatement.{SelectStatement}
use Rattle.hq_sql.specs.declared.tree.SourceName.{SourceName}
use Rattle.hq_sql.specs.declared.tree.Item.{Item}
use Rattle.hq_sql.specs.declared.tree.OrderKey.{OrderKey}
use Rattle.hq_sql.specs.declared.tree.OrderBy.{OrderBy}
use Rattle.hq_sql.specs.declared.tree.OrderBy.TheVariants as by
use Rattle.hq_algebra.specs.Kinds.{is_of, has_kind}
use Rattle.hq_algebra.specs.declared.kinds.ExprKind.{ExprKind}
use Rattle.hq_bind.specs.Scope.{Name, Defs, table_named, called, fit_count}
use Rattle.hq_bind.specs.Findings.{is_long, literal_kind}
use Rattle.hq_bind.specs.Reading.{read_columns, read_items, read_groups, item_findings, all_findings, is_grouped}
use Rattle.hq_bind.specs.Targets.{targets, column_names}
use Rattle.hq_bind.specs.declared.scope.SourceColumn.{SourceColumn}
use Rattle.hq_bind.specs.declared.findings.Findings.{Findings}
use Rattle.hq_bind.specs.declared.faults.Faults.{Faults}
use Rattle.hq_bind.specs.declared.refusal.Refusal.{Refusal}
use Rattle.hq_bind.specs.declared.refusal.Refusal.TheVariants as refused

-- ---- the order of refusals

abbrev pub first_of : Faults → Option Refusal
first_of f =
    if f.undefined_table then Some refused.UndefinedTable
    else (if f.duplicate_source then Some refused.DuplicateSource
    else (if f.limit then Some refused.Limit
    else (if f.duplicate_column then Some refused.DuplicateColumn
    else (if f.undefined_column then Some refused.UndefinedColumn
    else (if f.ambiguous_column then Some refused.AmbiguousColumn
    else (if f.type_mismatch then Some refused.TypeMismatch
    else (if f.not_grouped then Some refused.NotGrouped
    else None)))))))

-- ---- SELECT

abbrev pub is_no_table : Defs → SourceName → Bool
is_no_table defs s = is_none (table_named defs s.table)

abbrev pub is_called : Name → List SourceName → Bool
is_called name sources = list_any (λ (s : SourceName). same_names name (called s)) sources

-- two sources are called the same
abbrev pub repeats_source : List SourceName → Bool
repeats_source [] = false
repeats_source (s ∷ sources) = is_called (called s) sources || repeats_source sources

-- the item makes an output column of this name: its alias, or the column of a bare reference
abbrev pub is_bare : Name → SqlExpr → Bool
is_bare name (e.Column r) = same_names r.column name
is_bare name _ = false

abbrev pub has_name : Name → Item → Bool
has_name name i = by_alias i.alias
  where
    by_alias : Option Name → Bool
    by_alias (Some alias) = same_names alias name
    by_alias None = is_bare name i.expr

abbrev pub name_count : List Item → Name → ℕ
name_count items name = count_by (has_name name) items

abbrev pub place_count : List Item → ℕ → ℕ
place_count items place = if nat_lt 0 place && nat_le place (length items) then 1 else 0

-- how many output columns a key names
abbrev pub key_count : List Item → OrderBy → ℕ
key_count items (by.Column name) = name_count items name
key_count items (by.Place place) = place_count items place

-- a key that names no output column, and one that names two
abbrev pub is_no_key : List Item → OrderKey → Bool
is_no_key items key = key_count items key.by == 0

abbrev pub is_two_keys : List Item → OrderKey → Bool
is_two_keys items key = nat_lt 1 (key_count items key.by)

abbrev pub fits_none : List SourceColumn → ColumnRef → Bool
fits_none cs r = fit_count cs r == 0

abbrev pub fits_two : List SourceColumn → ColumnRef → Bool
fits_two cs r = nat_lt 1 (fit_count cs r)

abbrev pub has_long : Findings → Bool
has_long f = f.long

abbrev pub has_unknown : Findings → Bool
has_unknown f = f.unknown

abbrev pub has_ambiguous : Findings → Bool
has_ambiguous f = f.ambiguous

abbrev pub is_wrong : Findings → Bool
is_wrong f = not (has_kind f.kind)

abbrev pub is_no_condition : Findings → Bool
is_no_condition f = not (is_of kind.Bool f.kind)

abbrev pub has_ungrouped : Findings → Bool
has_ungrouped f = f.ungrouped

-- more than 8 sources, 64 output columns, or 1,000 bytes of a text
abbrev pub passes_limit : List SourceName → List Item → List Findings → List Findings → List Findings → Bool
passes_limit sources items of_items of_conds of_having =
    nat_lt 8 (length sources) || (nat_lt 64 (length items) || (list_any has_long of_items || (list_any has_long of_conds || list_any has_long of_having)))

-- a reference or a key that names no column
abbrev pub lacks : SelectStatement → List SourceColumn → List Item → List Findings → List Findings → List Findings → Bool
lacks s cs items of_items of_conds of_having =
    list_any has_unknown of_items || (list_any has_unknown of_conds || (list_any has_unknown of_having
    || (list_any (fits_none cs) s.groups || list_any (is_no_key items) s.keys)))

-- a reference or a key that names two
abbrev pub doubts : SelectStatement → List SourceColumn → List Item → List Findings → List Findings → List Findings → Bool
doubts s cs items of_items of_conds of_having =
    list_any has_ambiguous of_items || (list_any has_ambiguous of_conds || (list_any has_ambiguous of_having
    || (list_any (fits_two cs) s.groups || list_any (is_two_keys items) s.keys)))

-- an item of no kind, or a condition that is no Bool
abbrev pub mismatches : List Findings → List Findings → List Findings → Bool
mismatches of_items of_conds of_having = list_any is_wrong of_items || (list_any is_no_condition of_conds || list_any is_no_condition of_having)

-- a reference outside of an aggregate to a column that is not grouped
abbrev pub leaves_groups : List Findings → List Findings → Bool
leaves_groups of_items of_having = list_any has_ungrouped of_items || list_any has_ungrouped of_having

-- over its columns and its select list, by what is found in that, in the conditions and in HAVING
abbrev pub faults_over : Defs → SelectStatement → List SourceColumn → List Item → List Findings → List Findings → List Findings → Faults
faults_over defs s cs items of_items of_conds of_having = record {
  undefined_table = list_any (is_no_table defs) s.sources;
  duplicate_source = repeats_source s.sources;
  limit = passes_limit s.sources items of_items of_conds of_having;
  duplicate_column = false;
  undefined_column = lacks s cs items of_items of_conds of_having;
  ambiguous_column = doubts s cs items of_items of_conds of_having;
  type_mismatch = mismatches of_items of_conds of_having;
  not_grouped = is_grouped of_items s && leaves_groups of_items of_having;
}

abbrev pub query_faults : Defs → SelectStatement → Faults
query_faults defs s =
    let cs = read_columns defs s in
    let items = read_items cs s in
    let groups = read_groups cs s in
    faults_over defs s cs items (item_findings cs groups items) (all_findings cs groups s.conds) (all_findings cs groups (given s.having))

-- ---- INSERT

-- as many values as columns, each of its column's kind
abbrev pub kinds_fit : List Kind → List ExprKind → Bool
kinds_fit [] [] = true
kinds_fit (j ∷ js) (k ∷ ks) = is_of j k && kinds_fit js ks
kinds_fit _ _ = false

abbrev pub literals_misfit : List Kind → List Literal → Bool
literals_misfit kinds literals = not (kinds_fit kinds (map literal_kind literals))

abbrev pub has_long_literal : List Literal → Bool
has_long_literal literals = list_any is_long literals

-- a NULL alone is of any kind
abbrev pub findings_kinds : List Findings → List ExprKind
findings_kinds found = map (λ (f : Findings). f.kind) found

abbrev pub select_kinds : Defs → SelectStatement → List ExprKind
select_kinds defs s =
    let cs = read_columns defs s in
    findings_kinds (item_findings cs (read_groups cs s) (read_items cs s))

-- the tests of tuples for columns of these kinds
abbrev pub tuple_faults : List Kind → List (List Literal) → Faults
tuple_faults kinds tuples = record {
  undefined_table = false;
  duplicate_source = false;
  limit = list_any has_long_literal tuples;
  duplicate_column = false;
  undefined_column = false;
  ambiguous_column = false;
  type_mismatch = list_any (literals_misfit kinds) tuples;
  not_grouped = false;
}

-- the tests of a SELECT whose rows are for columns of these kinds
abbrev pub output_faults : List Kind → List ExprKind → Faults → Faults
output_faults kinds outputs of = record {
  undefined_table = of.undefined_table;
  duplicate_source = of.duplicate_source;
  limit = of.limit;
  duplicate_column = of.duplicate_column;
  undefined_column = of.undefined_column;
  ambiguous_column = of.ambiguous_column;
  type_mismatch = of.type_mismatch || not (kinds_fit kinds outputs);
  not_grouped = of.not_grouped;
}

abbrev pub is_no_column : List Column → Name → Bool
is_no_column columns name = not (is_column columns name)

-- and the tests of the list of columns
abbrev pub with_list : List Column → List Name → Faults → Faults
with_list columns names of = record {
  undefined_table = of.undefined_table;
  duplicate_source = of.duplicate_source;
  limit = of.limit;
  duplicate_column = not (are_distinct same_names names);
  undefined_column = of.undefined_column || list_any (is_no_column columns) names;
  ambiguous_column = of.ambiguous_column;
  type_mismatch = of.type_mismatch;
  not_grouped = of.not_grouped;
}

abbrev pub tuples_refusal : ℕ × Definition → List Name → List (List Literal) → Option Refusal
tuples_refusal table names tuples = first_of (with_list table.1.columns names (tuple_faults (targets table.1.columns names) tuples))

abbrev pub rows_refusal : Defs → ℕ × Definition → List Name → SelectStatement → Option Refusal
rows_refusal defs table names s = first_of (with_list table.1.columns names (output_faults (targets table.1.columns names) (select_kinds defs s) (query_faults defs s)))

abbrev pub input_refusal : Defs → ℕ × Definition → List Name → InsertInput → Option Refusal
input_refusal defs table names (input.Tuples tuples) = tuples_refusal table names tuples
input_refusal defs table names (input.Select s) = rows_refusal defs table names s

-- an INSERT into no table has the first refusal of all
abbrev pub insert_refusal : Defs → Option (ℕ × Definition) → InsertStatement → Option Refusal
insert_refusal defs None i = Some refused.UndefinedTable
insert_refusal defs (Some table) i = input_refusal defs table i.columns i.input

-- ---- CREATE TABLE

abbrev pub create_refusal : CreateStatement → Option Refusal
create_refusal c =
    if nat_lt 64 (length c.columns) then Some refused.Limit
    else (if not (are_distinct same_names (column_names c.columns) && are_distinct same_names c.keys) then Some refused.DuplicateColumn
    else (if list_any (is_no_column c.columns) c.keys then Some refused.UndefinedColumn
    else None))

-- ---- statements

-- the first refusal; a statement that is not bound has none
abbrev pub first_refusal : Defs → Statement → Option Refusal
first_refusal defs (statement.Create c) = create_refusal c
first_refusal defs (statement.Insert i) = insert_refusal defs (table_named defs i.name) i
first_refusal defs (statement.Select s) = first_of (query_faults defs s)
first_refusal defs _ = None
