use Rattle.std.proofs.Common.{◌≡◌, take, false}
use Rattle.std.specs.List.{list_any}
use Rattle.hq_ops.specs.declared.gathered.Tally.{Tally}
use Rattle.hq_ops.specs.Columns.{reads_fault}
use Rattle.hq_ops.proofs.Tallies.{FrontGrew}
use Rattle.hq_ops.proofs.gathering.add_to_all.Given as goal

abbrev pub invariant-loop-at : goal.invariant-loop-at
invariant-loop-at l = record {
  front : FrontGrew l.index l.fresh l.row l.fn.tallies.items l.tallies.items l.at;
  none : list_any (λ (t : Tally). reads_fault t.column l.row) (take l.at l.fn.tallies.items) ≡ false;
}
