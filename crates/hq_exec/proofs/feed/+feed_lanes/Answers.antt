use Rattle.std.proofs.Common.{arith}
use Rattle.hq_value.proofs.Counting.{steady_more}
use Rattle.hq_exec.specs.Lines.{line_state}
use Rattle.hq_exec.proofs.Buckets.{lanes-parts, no-lane, lanes-so}
use Rattle.hq_exec.proofs.feed.+feed_lanes.Goals as goal

pub returns-in-None-clause-fed : goal.returns-in-None-clause-fed
returns-in-None-clause-fed g t c =
    no-lane g.S.Store.faults g.S.Store.given g.S.Store.sound c.args.kinds.now c.args.tests.now _ c.args.lanes.now c.args.bucket c.args.store.now (line_state c.args.line.now (g.O.RowOut.state c.args.out.now)) c.in-None.ensures.cases c.requires.can_take

pub feed_lane-requires-clause-seals : goal.feed_lane-requires-clause-seals
feed_lane-requires-clause-seals g t c = λ told. (lanes-parts c.args.kinds.now c.args.lanes.now c.in-Some.first.now c.in-Some.others.now c.args.bucket c.in-Some.ensures.cases.0 (c.requires.seals told)).0

pub feed_lanes-requires : goal.feed_lanes-requires
feed_lanes-requires g t c κs within = (
  omega (arith, c.decreases, c.in-Some.ensures.cases.1),
  (
    within.0,
    (
      within.1.0,
      (
        within.1.1.0,
        (
          within.1.1.1,
          (
            omega (arith, c.requires.count, c.in-Some.ensures.cases.1),
            (
              c.in_ok-feed_lane-in-Some.ensures.fed.can_take,
              λ told. (lanes-parts c.args.kinds.now c.args.lanes.now c.in-Some.first.now c.in-Some.others.now c.args.bucket c.in-Some.ensures.cases.0 (c.requires.seals told)).1,
            ),
          ),
        ),
      ),
    ),
  ),
)

pub returns-in_ok-feed_lane-in-Some-clause-fed : goal.returns-in_ok-feed_lane-in-Some-clause-fed
returns-in_ok-feed_lane-in-Some-clause-fed g t c =
    lanes-so g.S.Store.faults g.S.Store.given g.S.Store.sound c.args.kinds.now c.args.tests.now c.feed_lanes.result _ c.args.lanes.now c.in-Some.first.now c.in-Some.others.now c.args.bucket c.args.store.now c.feed_lane.new.store c.feed_lanes.new.store
    _ _ _ c.in-Some.ensures.cases.0 c.in_ok-feed_lane-in-Some.ensures.fed c.feed_lanes.ensures.fed

pub returns-in_ok-feed_lane-in-Some-clause-store : goal.returns-in_ok-feed_lane-in-Some-clause-store
returns-in_ok-feed_lane-in-Some-clause-store g t c = steady_more g.S.Store.faults g.S.Store.sound c.args.store.now c.feed_lane.new.store c.feed_lanes.new.store c.in_ok-feed_lane-in-Some.ensures.store c.feed_lanes.ensures.store
