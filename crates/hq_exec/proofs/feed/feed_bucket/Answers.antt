use Rattle.std.proofs.Common.{List, Option, sym, subst, arith}
use Rattle.hq_value.proofs.Counting.{steady_more}
use Rattle.hq_store.specs.FileStep.{SealState}
use Rattle.hq_lane.specs.Lanes.{LaneState}
use Rattle.hq_exec.specs.Files.{lanes_bytes, own_files}
use Rattle.hq_exec.specs.Slices.{HasFiles}
use Rattle.hq_exec.proofs.Buckets.{bucket-so}
use Rattle.hq_exec.proofs.feed.feed_bucket.Goals as goal

pub feed_lanes-requires-clause-seals : goal.feed_lanes-requires-clause-seals
feed_lanes-requires-clause-seals g c = λ told. subst (λ (l : List (List (Option SealState))). HasFiles c.args.kinds.now (lanes_bytes l c.args.bucket)) (sym c.lanes-lanes.ensures.lanes) (c.requires.seals told c.args.bucket)

pub feed_own-requires : goal.feed_own-requires
feed_own-requires g c = (
  omega arith,
  (
    c.requires.within,
    (
      c.in_ok-feed_lanes.ensures.fed.can_take,
      λ told. subst (λ (w : List LaneState). HasFiles c.args.kinds.now (own_files w c.args.table c.args.bucket)) (sym c.own.ensures) (c.requires.own told c.args.bucket c.requires.within),
    ),
  ),
)

pub returns-clause-fed : goal.returns-clause-fed
returns-clause-fed g c =
    bucket-so g.S.Store.faults g.S.Store.given g.S.Store.sound c.args.kinds.now c.args.tests.now c.feed_own.result _ _ c.lanes-lanes.result.now c.args.snap.now.lanes c.own.result.now c.args.held.now c.args.table c.args.bucket
    c.args.store.now c.feed_lanes.new.store c.feed_own.new.store _ _ _ c.lanes-lanes.ensures.lanes c.own.ensures c.in_ok-feed_lanes.ensures.fed c.feed_own.ensures.fed

pub returns-clause-store : goal.returns-clause-store
returns-clause-store g c = steady_more g.S.Store.faults g.S.Store.sound c.args.store.now c.feed_lanes.new.store c.feed_own.new.store c.in_ok-feed_lanes.ensures.store c.feed_own.ensures.store
