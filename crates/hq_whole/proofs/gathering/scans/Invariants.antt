use Rattle.std.proofs.Common.{◌≡◌, ◌≤◌, ◌*◌, ◌++◌, drop, map}
use Rattle.hq_laws.specs.Gathered.{scan_slice}
use Rattle.hq_laws.specs.Guards.{with_guards}
use Rattle.hq_whole.specs.Tables.{kinds_by}
use Rattle.hq_whole.proofs.gathering.scans.Given as goal

abbrev pub invariant-loop-table : goal.invariant-loop-table
invariant-loop-table l = record {
  built : l.slices ++ map (scan_slice (kinds_by l.defs)) (with_guards (kinds_by l.defs) l.conds l.width (drop l.table-index l.sources)) ≡ map (scan_slice (kinds_by l.defs)) (with_guards (kinds_by l.defs) l.conds 0 l.sources);
  few : l.width ≤ 64 * l.table-index;
}
