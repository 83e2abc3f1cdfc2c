use Rattle.std.proofs.Common.{◌≡◌, ◌++◌, take, false}
use Rattle.std.specs.Prelude.{flat_map}
use Rattle.std.specs.List.{list_any}
use Rattle.hq_ops.specs.Gathering.{given_at, leaves_at}
use Rattle.hq_ops.proofs.gathering.tally_row.Given as goal

abbrev pub invariant-loop-tally : goal.invariant-loop-tally
invariant-loop-tally l = record {
  values : l.values ≡ l.key ++ flat_map (given_at l.index) (take l.tally-index l.tallies);
  none : list_any (leaves_at l.index) (take l.tally-index l.tallies) ≡ false;
}
