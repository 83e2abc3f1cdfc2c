use Rattle.std.proofs.Common.{◌≡◌, ◌++◌, drop}
use Rattle.hq_ops.specs.Gathering.{rows_from, leaves_from}
use Rattle.hq_ops.proofs.gathering.all_rows.Given as goal

abbrev pub invariant-loop-index : goal.invariant-loop-index
invariant-loop-index l = record {
  found : l.found.items ++ rows_from l.tallies l.index (drop l.index l.keys) ≡ rows_from l.tallies 0 l.keys;
  leaves : leaves_from l.tallies l.index (drop l.index l.keys) ≡ leaves_from l.tallies 0 l.keys;
}
