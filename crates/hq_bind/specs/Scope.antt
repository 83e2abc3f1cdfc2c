-- What references name.
--     table_named defs name     the table of this name, with its number
--     scope defs sources        the columns of all sources in order, with their sources' names
--     fit_count scope r         how many columns a reference fits
--     place_of scope r          the place of the first of them
use Rattle.std.specs.Prelude.{ℕ, Bool, true, ◌&&◌, List, [], ◌∷◌, map, flat_map, Option, Some, None, count_by, position, if◌then◌else◌}
use Rattle.std.specs.Option.{option_map_or}
use Rattle.hq_value.specs.Tables.{Definition, same_names}
use Rattle.hq_value.specs.declared.table.Column.{Column}
use Rattle.hq_expr.specs.declared.tree.ColumnRef.{ColumnRef}
use Rattle.hq_sql.specs.declared.tree.SourceName.{SourceName}
use Rattle.hq_bind.specs.declared.scope.SourceColumn.{SourceColumn}

abbrev pub Name : Type 0
Name = List ℕ

-- tables by their numbers
abbrev pub Defs : Type 0
Defs = List (ℕ × Definition)

-- the table of this name, with its number
abbrev pub table_named : Defs → Name → Option (ℕ × Definition)
table_named [] name = None
table_named (d ∷ defs) name = if same_names d.1.name name then Some d else table_named defs name

-- what a source is called: its alias where there is one
abbrev pub called : SourceName → Name
called s = option_map_or (λ (name : Name). name) s.alias s.table

abbrev pub column_of : Name → Column → SourceColumn
column_of source c = record { source = source; name = c.name; kind = c.kind }

abbrev pub columns_of : Name → List Column → List SourceColumn
columns_of source columns = map (column_of source) columns

abbrev pub source_columns : Defs → SourceName → List SourceColumn
source_columns defs s = option_map_or (λ (d : ℕ × Definition). columns_of (called s) d.1.columns) (table_named defs s.table) []

-- the columns of all sources in order
abbrev pub scope : Defs → List SourceName → List SourceColumn
scope defs sources = flat_map (source_columns defs) sources

abbrev pub is_of_source : Option Name → Name → Bool
is_of_source None source = true
is_of_source (Some name) source = same_names name source

-- a reference fits a column of its name, of the source that it names if it names one
abbrev pub fits : ColumnRef → SourceColumn → Bool
fits r c = is_of_source r.source c.source && same_names r.column c.name

-- how many columns a reference fits
abbrev pub fit_count : List SourceColumn → ColumnRef → ℕ
fit_count cs r = count_by (fits r) cs

-- the place of the first of them
abbrev pub place_of : List SourceColumn → ColumnRef → Option ℕ
place_of cs r = position (fits r) cs
