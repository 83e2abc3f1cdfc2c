-- The plan stands over the tables, and what the links carry after it is earlier than the next query.
use Rattle.std.proofs.Common.{arith, ◌<◌}
use Rattle.hq_querytests.proofs.Worked.{plan_stands, tables_stand}
use Rattle.hq_querytests.proofs.Links.{ready-next}
use Rattle.hq_querytests.proofs.queries.run_plan.Goals as goal

pub run_query-requires-after_bounds : goal.run_query-requires-after_bounds
run_query-requires-after_bounds g c κs within =
    let w = c.requires.plan.0 in
    let is = c.requires.plan.1 in (
      omega arith,
      (
        plan_stands w c.args.plan.now is,
        (
          tables_stand w c.args.plan.now c.args.tables.now is c.requires.there,
          (λ told. cc, (λ told. cc, (c.requires.up, (c.requires.nodes, c.requires.ready)))),
        ),
      ),
    )

pub returns : goal.returns
returns g c = ready-next c.args.query c.args.benches.now.items c.run_query.new.benches.items c.run_query.ensures.count c.run_query.ensures.links c.requires.ready
