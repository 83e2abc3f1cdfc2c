use Rattle.std.specs.List.{list_any}
use Rattle.hq_algebra.specs.Eval.{value_at, faults_at}
use Rattle.std.proofs.Common.{map}
use Rattle.hq_ops.proofs.Steps.{map-step, any-step}
use Rattle.hq_ops.proofs.project.project.Goals as goal

pub loop-row-preserved : goal.loop-row-preserved
loop-row-preserved c = record {
  found = map-step (λ row. map (λ e. value_at e row) c.args.items.now) c.args.rows.now c.loop-row.row-index c.row-item.result c.loop-row.found.items c.push.new.self.items c.in_ok-values.field-0 c.loop-row-test.true c.row-item.is c.loop-row.invariant.found c.in_ok-values.ensures.values c.in_ok-push.ensures.items;
  none = any-step (λ row. list_any (λ e. faults_at e row) c.args.items.now) c.args.rows.now c.loop-row.row-index c.row-item.result c.loop-row-test.true c.row-item.is c.loop-row.invariant.none c.in_ok-values.ensures.numeric;
}
