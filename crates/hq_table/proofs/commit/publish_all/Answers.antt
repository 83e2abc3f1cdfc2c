use Rattle.std.proofs.Common.{ap, ◌∙◌, length, arith}
use Rattle.std.proofs.lemmas.List.{length-set}
use Rattle.hq_lane.specs.Lanes.{LaneState, file_of}
use Rattle.hq_lane.specs.BucketFiles.{good_bytes}
use Rattle.hq_table.specs.Home.{IsHome}
use Rattle.hq_table.proofs.Places.{one-more, still-ahead}
use Rattle.hq_table.proofs.Committing.{more-under, still-under}
use Rattle.hq_table.proofs.commit.publish_all.Goals as goal

pub loop-bucket-preserved : goal.loop-bucket-preserved
loop-bucket-preserved c =
    let first = c.args.lane.now.files in
    let now = c.loop-bucket.lane.files in
    let k = c.loop-bucket.bucket in
    let set = ap (λ (l : LaneState). l.files) c.publish.ensures.lane in
    let kept = c.loop-bucket.invariant in
    record {
      sixteen = ap length c.publish.ensures.seals ∙ length-set c.loop-bucket.seals.items k _ ∙ kept.sixteen;
      home = one-more (λ _ p q. IsHome (good_bytes p) q) first now c.publish.new.lane.files k kept.home kept.ahead set c.publish.ensures.home;
      ahead = still-ahead first now c.publish.new.lane.files k kept.ahead set;
      under = more-under (λ b. good_bytes (file_of first b)) c.loop-bucket.seals.items c.publish.new.seals.items k _ c.publish.ensures.seals kept.under (c.publish.ensures.under ∙ ap good_bytes (kept.ahead k (omega arith)));
      still = λ b behind. still-under c.loop-bucket.seals.items c.publish.new.seals.items k _ c.publish.ensures.seals b behind ∙ kept.still b (omega (arith, behind));
    }
