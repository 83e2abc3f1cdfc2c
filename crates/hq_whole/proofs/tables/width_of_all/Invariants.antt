use Rattle.std.proofs.Common.{◌≡◌, ◌≤◌, ◌*◌, take}
use Rattle.hq_laws.specs.Turned.{columns_in}
use Rattle.hq_whole.specs.Tables.{kinds_by}
use Rattle.hq_whole.proofs.tables.width_of_all.Given as goal

abbrev pub invariant-loop-table : goal.invariant-loop-table
invariant-loop-table l = record {
  width : l.width ≡ columns_in (kinds_by l.defs) (take l.table-index l.tables);
  few : l.width ≤ 64 * l.table-index;
}
