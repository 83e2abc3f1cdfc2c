use Rattle.std.proofs.Common.{◌<◌, arith}
use Rattle.hq_value.proofs.Counting.{steady_more}
use Rattle.hq_exec.specs.Lines.{line_state}
use Rattle.hq_exec.proofs.Buckets.{fed-past, buckets-so}
use Rattle.hq_exec.proofs.feed.+feed_buckets.Goals as goal

pub returns-then-bucket-eq16-clause-fed : goal.returns-then-bucket-eq16-clause-fed
returns-then-bucket-eq16-clause-fed g t c =
    fed-past g.S.Store.faults g.S.Store.given g.S.Store.sound c.args.kinds.now c.args.tests.now _ c.args.snap.now.lanes c.args.held.now c.args.table c.args.bucket c.args.store.now (line_state c.args.line.now (g.O.RowOut.state c.args.out.now)) c.if-bucket-eq16.true c.requires.can_take

pub feed_buckets-requires : goal.feed_buckets-requires
feed_buckets-requires g t c κs within =
    let low : c.args.bucket < 16 = omega arith in (
      omega (arith, c.decreases, low),
      (within.0, (within.1.0, (within.1.1.0, (within.1.1.1, (omega (arith, low), (c.in_ok-feed_given.ensures.fed.can_take, (c.requires.seals, c.requires.own))))))),
    )

pub returns-clause-fed : goal.returns-clause-fed
returns-clause-fed g t c =
    let low : c.args.bucket < 16 = omega arith in
    buckets-so g.S.Store.faults g.S.Store.given g.S.Store.sound c.args.kinds.now c.args.tests.now c.feed_buckets.result _ c.args.snap.now.lanes c.args.held.now c.args.table c.args.bucket c.args.store.now c.feed_given.new.store c.feed_buckets.new.store
    _ _ _ low c.in_ok-feed_given.ensures.fed c.feed_buckets.ensures.fed

pub returns-clause-store : goal.returns-clause-store
returns-clause-store g t c = steady_more g.S.Store.faults g.S.Store.sound c.args.store.now c.feed_given.new.store c.feed_buckets.new.store c.in_ok-feed_given.ensures.store c.feed_buckets.ensures.store
