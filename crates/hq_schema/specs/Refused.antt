-- Refusals of CREATE TABLE and ALTER TABLE, as the definitions of these statements have them; want of memory is none.
--     create_fault_of why     of a CREATE TABLE
--     alter_fault_of why      of an ALTER TABLE
use Rattle.std.specs.Prelude.{Option, Some, None}
use Rattle.hq_bind.specs.Tables as spec
use Rattle.hq_schema.specs.declared.create.CreateFault.{CreateFault}
use Rattle.hq_schema.specs.declared.create.CreateFault.TheVariants as create
use Rattle.hq_schema.specs.declared.alter.AlterFault.{AlterFault}
use Rattle.hq_schema.specs.declared.alter.AlterFault.TheVariants as alter

abbrev pub create_fault_of : CreateFault → Option spec.CreateFault
create_fault_of create.Exists = Some spec.exists
create_fault_of create.TooManyTables = Some spec.too_many_tables
create_fault_of create.NoMemory = None

abbrev pub alter_fault_of : AlterFault → Option spec.AlterFault
alter_fault_of alter.NoTable = Some spec.no_table
alter_fault_of alter.TooManyColumns = Some spec.too_many_columns
alter_fault_of alter.ColumnThere = Some spec.column_there
alter_fault_of alter.NoMemory = None
