-- The files of one lane more are there.
use Rattle.std.proofs.Common.{◌≡◌, ◌<◌, [], length, arith, ◌∙◌}
use Rattle.std.proofs.lemmas.Grind.{common_steps}
use Rattle.std.proofs.lemmas.List.{get_or_default}
use Rattle.hq_snap.specs.Snaps.{lane_in}
use Rattle.hq_snap.proofs.Files.{lanes_more, few_more}
use Rattle.hq_snap.proofs.table_delta.copy_files.Goals as goal

pub loop-n-preserved : goal.loop-n-preserved
loop-n-preserved g c =
    let n = c.loop-n.n in
    let lanes = c.args.lanes.now in
    let lt : n < length lanes = (let t = c.loop-n-test.true in let z = c.loop-n.auto.n-end in let r = c.requires in grind (arith, common_steps)) in
    let read : c.index-lanes-n.result ≡ lane_in lanes n = c.index-lanes-n.is ∙ get_or_default lanes n c.index-lanes-n.result [] lt in
    record {
      files = lanes_more c.args.changed.now c.args.at lanes n c.loop-n.files.items c.add_lane.new.files.items c.lane.result.now c.index-lanes-n.result c.loop-n.invariant.files c.lane.ensures read c.in_ok-add_lane.ensures.files;
      few = few_more lanes n c.index-lanes-n.result c.loop-n.invariant.few read c.add_lane.ensures.few;
    }
