-- What CREATE TABLE and ALTER TABLE make of the tables that are there, in the order of their numbers.
--     create_fault tables name         why it makes none: one has its name, else there are 64
--     with_created tables c            the tables behind a CREATE TABLE
--     alter_fault tables name column   why an ALTER TABLE adds no column: no table has the name, else the table has 64 columns,
--                                      else one has the column's name
--     with_added tables name column    the tables behind an ALTER TABLE
--     with_statement tables s          .. behind any statement
use Rattle.std.specs.Prelude.{Bool, List, [], ◌∷◌, ◌++◌, length, Option, Some, None, is_none, nat_le, if◌then◌else◌}
use Rattle.std.specs.List.{list_any}
use Rattle.hq_value.specs.Tables.{Definition, same_names, column_refusal, with_column}
use Rattle.hq_value.specs.declared.table.Column.{Column}
use Rattle.hq_value.specs.declared.table.ColumnFault.{ColumnFault}
use Rattle.hq_value.specs.declared.table.ColumnFault.TheVariants as fault
use Rattle.hq_sql.specs.declared.tree.CreateStatement.{CreateStatement}
use Rattle.hq_sql.specs.declared.tree.Statement.{Statement}
use Rattle.hq_sql.specs.declared.tree.Statement.TheVariants as statement
use Rattle.hq_bind.specs.Scope.{Name}
use Rattle.hq_bind.specs.Bound.{created}

-- ---- CREATE TABLE

pub data CreateFault : Type 0 where
  exists : CreateFault
  too_many_tables : CreateFault

abbrev pub is_named : Name → Definition → Bool
is_named name def = same_names def.name name

-- one has its name, else there are 64
abbrev pub create_fault : List Definition → Name → Option CreateFault
create_fault tables name = if list_any (is_named name) tables then Some exists else if nat_le 64 (length tables) then Some too_many_tables else None

-- the new table is the last
abbrev pub with_created : List Definition → CreateStatement → List Definition
with_created tables c = if is_none (create_fault tables c.name) then tables ++ created c ∷ [] else tables

-- ---- ALTER TABLE

pub data AlterFault : Type 0 where
  no_table : AlterFault
  too_many_columns : AlterFault
  column_there : AlterFault

abbrev pub of_column : Option ColumnFault → Option AlterFault
of_column (Some fault.ColumnThere) = Some column_there
of_column (Some _) = Some too_many_columns
of_column None = None

-- no table has the name, else the table has 64 columns, else one has the column's name
abbrev pub alter_fault : List Definition → Name → Column → Option AlterFault
alter_fault [] name column = Some no_table
alter_fault (def ∷ tables) name column = if is_named name def then of_column (column_refusal def column) else alter_fault tables name column

abbrev pub if_added : Definition → Column → Definition
if_added def column = if is_none (column_refusal def column) then with_column def column else def

-- the column is the last of the table of this name
abbrev pub with_added : List Definition → Name → Column → List Definition
with_added [] name column = []
with_added (def ∷ tables) name column = if is_named name def then if_added def column ∷ tables else def ∷ with_added tables name column

-- ---- statements

abbrev pub with_statement : List Definition → Statement → List Definition
with_statement tables (statement.Create c) = with_created tables c
with_statement tables (statement.Alter name column) = with_added tables name column
with_statement tables _ = tables
