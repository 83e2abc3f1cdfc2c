use Rattle.std.proofs.Common.{◌≡◌, map, take, false}
use Rattle.std.specs.List.{list_any}
use Rattle.hq_algebra.specs.Eval.{value_at, faults_at}
use Rattle.hq_ops.proofs.project.values.Given as goal

abbrev pub invariant-loop-item : goal.invariant-loop-item
invariant-loop-item l = record {
  values : l.values ≡ map (λ e. value_at e l.row) (take l.item-index l.items);
  none : list_any (λ e. faults_at e l.row) (take l.item-index l.items) ≡ false;
}
