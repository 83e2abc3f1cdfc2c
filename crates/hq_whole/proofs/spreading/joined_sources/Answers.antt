use Rattle.std.proofs.Common.{arith, ◌∙◌}
use Rattle.hq_whole.specs.Choices.{built_of}
use Rattle.hq_whole.specs.Tables.{kinds_by}
use Rattle.hq_whole.proofs.Building.{step-next}
use Rattle.hq_whole.proofs.spreading.joined_sources.Goals as goal

pub loop-step-preserved : goal.loop-step-preserved
loop-step-preserved c = record {
  built = step-next (kinds_by c.args.defs.now) c.args.conds.now (built_of c.loop-step.built) (built_of c.in_ok-next.next) c.args.steps.now c.loop-step.step-index c.step-item.result c.loop-step-test.true c.step-item.is c.in_ok-next.ensures.built ∙ c.loop-step.invariant.built;
  few = omega (arith, c.in_ok-next.ensures.few, c.loop-step.invariant.few);
  columns = omega (arith, c.in_ok-next.ensures.columns, c.loop-step.invariant.columns);
}
