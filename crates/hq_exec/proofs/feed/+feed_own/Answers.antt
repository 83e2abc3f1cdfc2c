use Rattle.std.proofs.Common.{arith}
use Rattle.hq_value.proofs.Counting.{steady_more}
use Rattle.hq_exec.specs.Lines.{line_state}
use Rattle.hq_exec.proofs.Buckets.{own-parts, no-own, owns-so}
use Rattle.hq_exec.proofs.feed.+feed_own.Goals as goal

pub returns-in-None-clause-fed : goal.returns-in-None-clause-fed
returns-in-None-clause-fed g t c =
    no-own g.S.Store.faults g.S.Store.given g.S.Store.sound c.args.kinds.now c.args.tests.now _ c.args.own.now c.args.table c.args.bucket c.args.store.now (line_state c.args.line.now (g.O.RowOut.state c.args.out.now)) c.in-None.ensures.cases c.requires.can_take

pub feed_own_lane-requires : goal.feed_own_lane-requires
feed_own_lane-requires g t c = (
  omega arith,
  (
    c.requires.within,
    (
      c.requires.can_take,
      λ told. (own-parts c.args.kinds.now c.args.own.now c.in-Some.first.now c.in-Some.others.now c.args.table c.args.bucket c.in-Some.ensures.cases.0 (c.requires.own told)).0,
    ),
  ),
)

pub feed_own-requires : goal.feed_own-requires
feed_own-requires g t c κs within = (
  omega (arith, c.decreases, c.in-Some.ensures.cases.1),
  (
    within.0,
    (
      within.1.0,
      (
        within.1.1.0,
        (
          within.1.1.1,
          (
            omega arith,
            (
              c.requires.within,
              (
                c.in_ok-feed_own_lane-in-Some.ensures.fed.can_take,
                λ told. (own-parts c.args.kinds.now c.args.own.now c.in-Some.first.now c.in-Some.others.now c.args.table c.args.bucket c.in-Some.ensures.cases.0 (c.requires.own told)).1,
              ),
            ),
          ),
        ),
      ),
    ),
  ),
)

pub returns-in_ok-feed_own_lane-in-Some-clause-fed : goal.returns-in_ok-feed_own_lane-in-Some-clause-fed
returns-in_ok-feed_own_lane-in-Some-clause-fed g t c =
    owns-so g.S.Store.faults g.S.Store.given g.S.Store.sound c.args.kinds.now c.args.tests.now c.feed_own.result _ c.args.own.now c.in-Some.first.now c.in-Some.others.now c.args.table c.args.bucket c.args.store.now c.feed_own_lane.new.store c.feed_own.new.store
    _ _ _ c.in-Some.ensures.cases.0 c.in_ok-feed_own_lane-in-Some.ensures.fed c.feed_own.ensures.fed

pub returns-in_ok-feed_own_lane-in-Some-clause-store : goal.returns-in_ok-feed_own_lane-in-Some-clause-store
returns-in_ok-feed_own_lane-in-Some-clause-store g t c = steady_more g.S.Store.faults g.S.Store.sound c.args.store.now c.feed_own_lane.new.store c.feed_own.new.store c.in_ok-feed_own_lane-in-Some.ensures.store c.feed_own.ensures.store
