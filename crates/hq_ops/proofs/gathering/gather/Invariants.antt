use Rattle.std.proofs.Common.{◌≡◌, ◌++◌, List, map, take, false}
use Rattle.std.specs.List.{list_any}
use Rattle.hq_value.specs.declared.value.Value.{Value}
use Rattle.hq_ops.specs.declared.column.Column.{Column}
use Rattle.hq_ops.specs.declared.gathered.Tally.{Tally}
use Rattle.hq_ops.specs.Gathering.{HasGathered, AreEven, row_faults}
use Rattle.hq_ops.proofs.gathering.gather.Given as goal

abbrev pub invariant-loop-row : goal.invariant-loop-row
invariant-loop-row l = record {
  even : AreEven l.keys.keys l.tallies.items;
  columns : map (λ (t : Tally). t.column) l.tallies.items ≡ map (λ (t : Tally). t.column) l.fn.gathered.tallies.items;
  gathered : (columns : List Column) (before : List (List Value)) → HasGathered l.by columns before l.fn.gathered.keys.keys l.fn.gathered.tallies.items → HasGathered l.by columns (before ++ take l.row-index l.rows) l.keys.keys l.tallies.items;
  none : list_any (row_faults (map (λ (t : Tally). t.column) l.fn.gathered.tallies.items)) (take l.row-index l.rows) ≡ false;
}
