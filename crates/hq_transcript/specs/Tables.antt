-- The rows of tables, as statements put them. A table is known by its number.
--     columns_of, keys_of tables t     the columns of table t, and its keys
--     kinds_in, width tables t         the kinds of its columns, and how many there are
--     Put                              the rows that one INSERT puts into its table
--     rows_in columns puts t           the rows put into table t, each with NULLs up to so many columns
--     database tables puts t           the rows put into table t, each with NULLs up to the table's columns
use Rattle.std.specs.Prelude.{ℕ, List, [], ◌∷◌, ◌++◌, length, map, slice_get, ◌==◌, if◌then◌else◌}
use Rattle.std.specs.Option.{option_map_or}
use Rattle.hq_value.specs.declared.value.Value.{Value}
use Rattle.hq_value.specs.declared.kind.Kind.{Kind}
use Rattle.hq_value.specs.declared.table.Column.{Column}
use Rattle.hq_value.specs.Kinds.{kinds_of}
use Rattle.hq_value.specs.Tables.{Definition}
use Rattle.hq_block.specs.Block.{padded}
use Rattle.hq_meaning.specs.Mean.{Database}

abbrev pub columns_of : List Definition → ℕ → List Column
columns_of tables t = option_map_or (λ (table : Definition). table.columns) (slice_get tables t) []

-- the places of the columns by which its rows are spread, none where that is by their places
abbrev pub keys_of : List Definition → ℕ → List ℕ
keys_of tables t = option_map_or (λ (table : Definition). table.keys) (slice_get tables t) []

abbrev pub kinds_in : List Definition → ℕ → List Kind
kinds_in tables t = kinds_of (columns_of tables t)

abbrev pub width : List Definition → ℕ → ℕ
width tables t = length (columns_of tables t)

-- the rows that one INSERT puts into a table, as wide as the table then was, and the table's keys, which say their buckets
pub record Put : Type 0 where
  pub table : ℕ
  pub keys : List ℕ
  pub rows : List (List Value)

-- the rows put into table t, each with NULLs for the columns that were added since, up to so many
abbrev pub rows_in : ℕ → List Put → ℕ → List (List Value)
rows_in columns [] t = []
rows_in columns (put ∷ puts) t = if put.table == t then map (padded columns) put.rows ++ rows_in columns puts t else rows_in columns puts t

abbrev pub database : List Definition → List Put → Database
database tables puts t = rows_in (width tables t) puts t
