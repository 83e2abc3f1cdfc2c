use Rattle.std.proofs.Common.{◌≡◌, [], map, take}
use Rattle.std.specs.Prelude.{All}
use Rattle.hq_ops.specs.declared.gathered.Tally.{Tally}
use Rattle.hq_ops.proofs.gathering.empty_tallies.Given as goal

abbrev pub invariant-loop-column : goal.invariant-loop-column
invariant-loop-column l = record {
  columns : map (λ (t : Tally). t.column) l.tallies.items ≡ take l.column-index l.columns;
  empty : All (λ (t : Tally). t.groups.items ≡ []) l.tallies.items;
}
