-- The plan is well formed.
use Rattle.hq_slicetests.proofs.Worked.{plan_stands}
use Rattle.hq_slicetests.proofs.slices.run_work.Goals as goal

pub encode_plan-requires : goal.encode_plan-requires
encode_plan-requires g c = plan_stands c.args.work c.in_ok-plan.plan c.in_ok-plan.ensures
