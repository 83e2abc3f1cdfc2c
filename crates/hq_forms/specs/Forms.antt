-- The forms of a statement that are answered.
--     form_of s          the form that a statement is, or none
--     form_in text       the form that a text is, or none
--
--     CREATE TABLE       of 1 to 64 columns of distinct names without NOT NULL, with distinct keys that are columns
--     INSERT             of rows, without a list of columns
--     SELECT *           of one table without an alias, and no other clause
-- A text in a row has at most 1,000 bytes.
use Rattle.std.specs.Prelude.{◌<◌, ◌≤◌, ℕ, ◌+◌, Bool, true, false, not, ◌&&◌, nat_le, nat_lt, nat_eq, List, [], ◌∷◌, length, map, Option, Some, None, IsTrue, if◌then◌else◌}
use Rattle.std.specs.List.{list_any}
use Rattle.std.specs.Str.{bytes_eq}
use Rattle.hq_value.specs.Tables.{IsDefinition, are_distinct, same_names}
use Rattle.hq_value.specs.declared.value.Value.{Value}
use Rattle.hq_value.specs.declared.value.Value.TheVariants as value
use Rattle.hq_value.specs.declared.table.Column.{Column}
use Rattle.hq_expr.specs.declared.tree.Literal.{Literal}
use Rattle.hq_expr.specs.declared.tree.Literal.TheVariants as literal
use Rattle.hq_sql.specs.declared.tree.Statement.{Statement}
use Rattle.hq_sql.specs.declared.tree.Statement.TheVariants as statement
use Rattle.hq_sql.specs.declared.tree.CreateStatement.{CreateStatement}
use Rattle.hq_sql.specs.declared.tree.InsertStatement.{InsertStatement}
use Rattle.hq_sql.specs.declared.tree.InsertInput.{InsertInput}
use Rattle.hq_sql.specs.declared.tree.InsertInput.TheVariants as input
use Rattle.hq_sql.specs.declared.tree.SelectStatement.{SelectStatement}
use Rattle.hq_sql.specs.declared.tree.SourceName.{SourceName}
use Rattle.hq_sql.specs.Texts.{in_front, statement_in}
use Rattle.hq_forms.specs.declared.form.Form.{Form}
use Rattle.hq_forms.specs.declared.form.Form.TheVariants as form

infixl 10 ◌>>=◌
abbrev pub ◌>>=◌ : {A B : Type 0} → Option A → (A → Option B) → Option B
None >>= f = None
(Some x) >>= f = f x

-- what each of a list gives, where each gives something
abbrev pub every : {A B : Type 0} → (A → Option B) → List A → Option (List B)
every f [] = Some []
every f (x ∷ xs) = f x >>= λ y. in_front y (every f xs)

-- ---- CREATE TABLE

abbrev pub one_more : Option ℕ → Option ℕ
one_more (Some n) = Some (n + 1)
one_more None = None

-- the place of the first column of this name
abbrev pub place_in : List Column → List ℕ → Option ℕ
place_in [] name = None
place_in (column ∷ columns) name = if bytes_eq column.name name then Some 0 else one_more (place_in columns name)

abbrev pub names : List Column → List (List ℕ)
names columns = map (λ (column : Column). column.name) columns

abbrev pub are_few : List Column → Bool
are_few columns = nat_lt 0 (length columns) && nat_le (length columns) 64

abbrev pub is_not_null : Column → Bool
is_not_null column = column.not_null

abbrev pub are_columns : List Column → Bool
are_columns columns = are_few columns && (are_distinct same_names (names columns) && not (list_any is_not_null columns))

abbrev pub if_distinct : List ℕ → Option (List ℕ)
if_distinct places = if are_distinct nat_eq places then Some places else None

-- the places of the keys, where they are distinct columns
abbrev pub keys_in : List Column → List (List ℕ) → Option (List ℕ)
keys_in columns keys = every (place_in columns) keys >>= if_distinct

abbrev pub create_of : CreateStatement → Option Form
create_of c = if are_columns c.columns then keys_in c.columns c.keys >>= (λ keys. Some (form.Create c.name c.columns keys)) else None

-- a new table keeps the rules of a definition
abbrev pub IsGood : Form → Type 0
IsGood (form.Create name columns keys) = IsDefinition (record { name = name; columns = columns; keys = keys })
IsGood _ = Unit {0}

-- ---- INSERT

abbrev pub text_of : List ℕ → Option Value
text_of t = if nat_lt 1000 (length t) then None else Some (value.Text t)

abbrev pub value_of : Literal → Option Value
value_of literal.Null = Some value.Null
value_of (literal.Bool b) = Some (value.Bool b)
value_of (literal.Int n) = Some (value.Int n)
value_of (literal.Text t) = text_of t

abbrev pub row_of : List Literal → Option (List Value)
row_of literals = every value_of literals

abbrev pub rows_of : InsertInput → Option (List (List Value))
rows_of (input.Tuples tuples) = every row_of tuples
rows_of (input.Select select) = None

abbrev pub with_rows : List ℕ → Option (List (List Value)) → Option Form
with_rows table (Some rows) = Some (form.Insert table rows)
with_rows table None = None

abbrev pub insert_of : InsertStatement → Option Form
insert_of i = by i.columns
  where
    by : List (List ℕ) → Option Form
    by [] = with_rows i.name (rows_of i.input)
    by (column ∷ columns) = None

-- ---- SELECT *

abbrev pub is_missing : {A : Type 0} → Option A → Bool
is_missing (Some x) = false
is_missing None = true

abbrev pub is_empty : {A : Type 0} → List A → Bool
is_empty [] = true
is_empty (x ∷ xs) = false

-- `*`, and no clause behind the sources
abbrev pub is_plain : SelectStatement → Bool
is_plain s = (not s.distinct && (is_empty s.items && is_empty s.conds)) && ((is_empty s.groups && is_missing s.having) && (is_empty s.keys && is_missing s.limit))

abbrev pub table_of : List SourceName → Option (List ℕ)
table_of (source ∷ []) = if is_missing source.alias then Some source.table else None
table_of _ = None

abbrev pub select_of : SelectStatement → Option Form
select_of s = if is_plain s then table_of s.sources >>= (λ table. Some (form.Select table)) else None

-- ---- any form

abbrev pub form_of : Statement → Option Form
form_of (statement.Create c) = create_of c
form_of (statement.Insert i) = insert_of i
form_of (statement.Select s) = select_of s
form_of _ = None

abbrev pub form_in : List ℕ → Option Form
form_in text = statement_in text >>= form_of
