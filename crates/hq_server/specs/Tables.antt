-- Tables and the answers to statements over them.
--     reply_of tables s       the reply to a statement
--     after tables s          the tables that it leaves
--     IsAnswer ..             a reply is that, or there was no memory and nothing changed
use Rattle.std.specs.Prelude.{◌≡◌, ◌⊎◌, ◌+◌, ℕ, Bool, List, [], ◌∷◌, ◌++◌, length, map, nat_le, is_some, Option, Some, None, if◌then◌else◌}
use Rattle.std.specs.Str.{bytes_eq}
use Rattle.hq_value.specs.declared.value.Value.{Value}
use Rattle.hq_value.specs.declared.table.Column.{Column}
use Rattle.hq_value.specs.Order.{in_row_order}
use Rattle.hq_forms.specs.declared.form.Form.{Form}
use Rattle.hq_forms.specs.declared.form.Form.TheVariants as form
use Rattle.hq_reply.specs.declared.reply.Reply.{Reply}
use Rattle.hq_reply.specs.declared.reply.Reply.TheVariants.{Rows, Inserted, Created, Error}
use Rattle.hq_reply.specs.declared.fault.Fault.TheVariants as fault
use Rattle.hq_value.specs.Kinds.{are_fit, kinds_of}

-- a table: its name, its columns, the places of its keys, and its rows in the order in which they were inserted
pub record Table : Type 0 where
  pub name : List ℕ
  pub columns : List Column
  pub keys : List ℕ
  pub rows : List (List Value)

abbrev pub is_named : List ℕ → Table → Bool
is_named name table = bytes_eq table.name name

abbrev pub table_named : List ℕ → List Table → Option Table
table_named name [] = None
table_named name (table ∷ tables) = if is_named name table then Some table else table_named name tables

abbrev pub with_rows : List (List Value) → Table → Table
with_rows rows table = record table { rows = table.rows ++ rows }

abbrev pub add_rows : List ℕ → List (List Value) → List Table → List Table
add_rows name rows [] = []
add_rows name rows (table ∷ tables) = if is_named name table then with_rows rows table ∷ tables else table ∷ add_rows name rows tables

-- the reply to an INSERT into the table that was found
abbrev pub insert_reply : List (List Value) → Option Table → Reply
insert_reply rows None = Error fault.UndefinedTable
insert_reply rows (Some table) = if are_fit (kinds_of table.columns) rows then Inserted (length rows) else Error fault.TypeMismatch

abbrev pub select_reply : Option Table → Reply
select_reply None = Error fault.UndefinedTable
select_reply (Some table) = Rows (in_row_order table.rows)

-- the tables after an INSERT into the table that was found
abbrev pub inserted : List ℕ → List (List Value) → List Table → Option Table → List Table
inserted name rows tables None = tables
inserted name rows tables (Some table) = if are_fit (kinds_of table.columns) rows then add_rows name rows tables else tables

abbrev pub reply_of : List Table → Option Form → Reply
reply_of tables None = Error fault.Syntax
reply_of tables (Some (form.Create name columns keys)) =
    if is_some (table_named name tables) then Error fault.TableExists
    else (if nat_le 64 (length tables) then Error fault.TooManyTables
    else Created)
reply_of tables (Some (form.Insert name rows)) = insert_reply rows (table_named name tables)
reply_of tables (Some (form.Select name)) = select_reply (table_named name tables)

abbrev pub after : List Table → Option Form → List Table
after tables None = tables
after tables (Some (form.Create name columns keys)) =
    if is_some (table_named name tables) then tables
    else (if nat_le 64 (length tables) then tables
    else tables ++ record { name = name; columns = columns; keys = keys; rows = [] } ∷ [])
after tables (Some (form.Insert name rows)) = inserted name rows tables (table_named name tables)
after tables (Some (form.Select name)) = tables

-- the reply is the statement's and the tables are those that it leaves, or there was no memory and nothing changed
abbrev pub IsAnswer : Option Form → List Table → Reply → List Table → Type 0
IsAnswer s old reply new = ((reply ≡ reply_of old s) × (new ≡ after old s)) ⊎ ((reply ≡ Error fault.NoMemory) × (new ≡ old))

-- the place of the first of these names that is this one
abbrev pub one_more : Option ℕ → Option ℕ
one_more (Some n) = Some (n + 1)
one_more None = None

abbrev pub place_of : List ℕ → List (List ℕ) → Option ℕ
place_of name [] = None
place_of name (first ∷ names) = if bytes_eq first name then Some 0 else one_more (place_of name names)

abbrev pub names : List Table → List (List ℕ)
names tables = map (λ (table : Table). table.name) tables
