-- One more place is clean.
use Rattle.std.proofs.Common.{◌≡◌, ◌<◌, true, length, arith, ◌∙◌}
use Rattle.std.proofs.lemmas.Grind.{common_steps}
use Rattle.hq_lane.specs.BucketFiles.{is_clean}
use Rattle.hq_lane.specs.Lanes.{file_of}
use Rattle.hq_lane.proofs.Clean.{are_clean-more}
use Rattle.hq_lane.proofs.bucket_files.all_clean.Goals as goal

pub loop-file-preserved : goal.loop-file-preserved
loop-file-preserved g c = record {
  clean = let xs = c.args.files.now in let i = c.loop-file.file-index in
      let j = c.if-not-is_clean.ensures.clean in
      let e : is_clean (file_of xs i) ≡ true = grind (arith, common_steps) in
      let h : i < length xs = omega arith in
      are_clean-more xs i h e ∙ c.loop-file.invariant.clean;
  just = λ t b h. let f = c.loop-file.invariant.just t b in let j = c.if-not-is_clean.ensures.just in grind (arith, common_steps);
}
