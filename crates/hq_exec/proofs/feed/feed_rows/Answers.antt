use Rattle.std.proofs.Common.{◌∙◌, arith}
use Rattle.hq_exec.proofs.Feeds.{batch-fits, takes-range, takes-whole}
use Rattle.hq_exec.proofs.feed.feed_rows.Goals as goal

pub take-requires : goal.take-requires
take-requires g c = (c.args.kinds.now, c.batches.invariant.can_take, batch-fits c.args.kinds.now c.args.rows.now c.in_ok-batch.batch.items c.batches.at _ c.in_ok-batch.ensures c.requires.fit (omega arith))

pub batches-preserved : goal.batches-preserved
batches-preserved g c =
    let fit = batch-fits c.args.kinds.now c.args.rows.now c.in_ok-batch.batch.items c.batches.at _ c.in_ok-batch.ensures c.requires.fit (omega arith) in
    record {
      within = omega arith;
      takes = takes-range c.args.kinds.now c.args.rows.now c.in_ok-batch.batch.items c.batches.at _ _ _ _ c.in_ok-batch.ensures c.batches.invariant.takes (c.in_ok-take.ensures.takes c.args.kinds.now fit) (omega arith);
      can_take = c.in_ok-take.ensures.can c.args.kinds.now fit c.batches.invariant.can_take;
      kinds = c.take.ensures.kinds ∙ c.batches.invariant.kinds;
    }

pub returns-clause-takes : goal.returns-clause-takes
returns-clause-takes g c = takes-whole c.args.kinds.now c.args.rows.now c.batches.at _ _ c.batches.invariant.takes (omega arith)
