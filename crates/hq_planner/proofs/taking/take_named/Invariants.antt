use Rattle.std.proofs.Common.{◌≡◌, map, take, length}
use Rattle.hq_narrow.specs.declared.taken.Taken.{Taken}
use Rattle.hq_planner.specs.Parts.{AreParts}
use Rattle.hq_planner.proofs.taking.take_named.Given as goal

abbrev pub invariant-loop-table : goal.invariant-loop-table
invariant-loop-table l = record {
  sources : map (λ (t : Taken). t.table) l.taking.sources.items ≡ take l.table-index l.sources;
  count : length l.taking.sources.items ≡ l.table-index;
  parts : AreParts l.defs l.taking.sources.items l.taking.tables.items;
}
