-- The kinds of the slice's root.
use Rattle.hq_slicetests.proofs.Worked.{root_typed}
use Rattle.hq_slicetests.proofs.plans.plan_of.Goals as goal

pub kinds_of-requires : goal.kinds_of-requires
kinds_of-requires c = root_typed c.args.work c.in_ok-root.root c.in_ok-root.ensures
