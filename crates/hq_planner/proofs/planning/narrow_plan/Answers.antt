use Rattle.hq_planner.proofs.Narrowed.{planned-bound, planned-serves}
use Rattle.hq_planner.proofs.planning.narrow_plan.Goals as goal

pub plan_whole-requires : goal.plan_whole-requires
plan_whole-requires c =
    planned-bound c.args.defs.now c.in_ok-taking.taking.tables.items c.args.query.now c.in_ok-new.new c.in_ok-taking.taking.sources.items c.in_ok-new.ensures c.as_slice.result.now c.as_slice.ensures.value c.requires

pub returns : goal.returns
returns c =
    planned-serves c.args.defs.now c.in_ok-taking.taking.tables.items c.args.query.now c.in_ok-new.new c.in_ok-taking.taking.sources.items c.in_ok-new.ensures c.as_slice.result.now c.as_slice-3.result.now c.in_ok-narrow.narrow c.in_ok-plan.plan
    c.as_slice.ensures.value c.as_slice-3.ensures.value c.in_ok-narrow.ensures.means c.in_ok-narrow.ensures.form c.in_ok-narrow.ensures.guards c.in_ok-plan.ensures
