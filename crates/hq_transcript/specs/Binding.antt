-- Bound statements, and what they mean. How a statement is bound is a parameter here: `Binds` gives it.
--     Binding B                    a bound statement of type B, or its first refusal
--     Binder                       how a CREATE TABLE, an INSERT and a SELECT are bound over the tables
--     inserted insertion db        the rows to insert, all columns in order
--     breaks_not_null tables t rows    a NULL stands for a column that takes none
use Rattle.std.specs.Prelude.{ℕ, Bool, true, false, List, ◌∷◌, map, Option, Some, None, slice_get, unwrap_or, if◌then◌else◌}
use Rattle.std.specs.List.{list_any}
use Rattle.hq_value.specs.declared.value.Value.{Value}
use Rattle.hq_value.specs.declared.value.Value.TheVariants as value
use Rattle.hq_value.specs.declared.table.Column.{Column}
use Rattle.hq_value.specs.Tables.{Definition}
use Rattle.hq_sql.specs.declared.tree.CreateStatement.{CreateStatement}
use Rattle.hq_sql.specs.declared.tree.InsertStatement.{InsertStatement}
use Rattle.hq_sql.specs.declared.tree.SelectStatement.{SelectStatement}
use Rattle.hq_algebra.specs.declared.query.Query.{Query}
use Rattle.hq_meaning.specs.Mean.{Database, Answer, Rows, Numeric, mean}
use Rattle.hq_reply.specs.declared.fault.Fault.{Fault}
use Rattle.hq_transcript.specs.Tables.{columns_of}

-- a bound statement, or its first refusal
pub data Binding (B : Type 0) : Type 0 where
  Refused : (why : Fault) → Binding B
  Bound : (bound : B) → Binding B

-- an INSERT over table numbers: rows with all columns in order, or for each column its place in the query's rows, or none
pub data Insertion : Type 0 where
  Values : (table : ℕ) → (rows : List (List Value)) → Insertion
  Of_query : (table : ℕ) → (places : List (Option ℕ)) → (query : Query) → Insertion

pub record Binder : Type 0 where
  pub create : CreateStatement → Binding Definition
  pub insert : List Definition → InsertStatement → Binding Insertion
  pub select : List Definition → SelectStatement → Binding Query

abbrev pub table_of : Insertion → ℕ
table_of (Values t rows) = t
table_of (Of_query t places query) = t

-- the value of a column that has this place in the query's row, NULL where it has none
abbrev pub placed_value : List Value → Option ℕ → Value
placed_value row None = value.Null
placed_value row (Some place) = unwrap_or (slice_get row place) value.Null

abbrev pub placed : List (Option ℕ) → List Value → List Value
placed places row = map (placed_value row) places

abbrev pub placed_answer : List (Option ℕ) → Answer → Answer
placed_answer places Numeric = Numeric
placed_answer places (Rows rows) = Rows (map (placed places) rows)

-- the rows to insert, all columns in order
abbrev pub inserted : Insertion → Database → Answer
inserted (Values t rows) db = Rows rows
inserted (Of_query t places query) db = placed_answer places (mean query db)

abbrev pub null_refused : List Column → List Value → Bool
null_refused (column ∷ columns) (value.Null ∷ values) = if column.not_null then true else null_refused columns values
null_refused (column ∷ columns) (value ∷ values) = null_refused columns values
null_refused _ _ = false

abbrev pub breaks_not_null : List Definition → ℕ → List (List Value) → Bool
breaks_not_null tables t rows = list_any (null_refused (columns_of tables t)) rows
