-- One bucket more.
use Rattle.std.proofs.Common.{◌∙◌, ◌++◌, ◌∷◌, ◌==◌, ℕ, List, [], cond, slice_index, ap, sym, arith}
use Rattle.hq_motion.proofs.Splitting.{up-more}
use Rattle.hq_dispatch.proofs.buckets.buckets_of.Goals as goal

pub loop-bucket-preserved : goal.loop-bucket-preserved
loop-bucket-preserved c = record {
  within = let w = c.add_bucket-count.ensures.within in let v = c.loop-bucket.invariant.within in omega (arith, w, v);
  are =
      c.add_bucket-count.ensures.are ∙ ap (λ (l : List ℕ). l ++ cond (slice_index c.args.owner.now c.loop-bucket.bucket == c.args.node) (c.loop-bucket.bucket ∷ []) []) c.loop-bucket.invariant.are
      ∙ sym (up-more (λ b. slice_index c.args.owner.now b == c.args.node) c.loop-bucket.bucket);
}
