use Rattle.std.proofs.Common.{◌≡◌, ◌%◌, length, slice_index_or, ap, ◌∙◌, arith}
use Rattle.std.proofs.lemmas.List.{length-set}
use Rattle.hq_detect.specs.Assign.{nodes_up, owner_of}
use Rattle.hq_detect.proofs.Ups.{set_next}
use Rattle.hq_detect.proofs.owners.assign.Goals as goal

pub loop-bucket-preserved : goal.loop-bucket-preserved
loop-bucket-preserved c = record {
  so_far = set_next (owner_of c.args.marks.now) c.loop-bucket.owners c.loop-bucket.bucket c.nth_up.result (omega (arith, c.loop-bucket.invariant.len))
      (c.nth_up.ensures ∙ ap (λ n. slice_index_or (nodes_up c.args.marks.now) (c.loop-bucket.bucket % n) 0) c.count_up-count.ensures.count) c.loop-bucket.invariant.so_far;
  len = length-set c.loop-bucket.owners c.loop-bucket.bucket c.nth_up.result ∙ c.loop-bucket.invariant.len;
}
