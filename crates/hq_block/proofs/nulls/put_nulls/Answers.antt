use Rattle.std.proofs.Common.{◌≡◌, ◌<◌, ◌∷◌, ◌++◌, [], length, take, ap, ◌∙◌, arith}
use Rattle.std.proofs.lemmas.Bool.Decides.{nat_tests}
use Rattle.hq_block.specs.Row.{null_flags, null_bitmap}
use Rattle.hq_block.proofs.Flags.{bitmap-step}
use Rattle.hq_block.proofs.Front.{front_stays}
use Rattle.hq_block.proofs.nulls.put_nulls.Goals as goal

pub loop-rest-preserved : goal.loop-rest-preserved
loop-rest-preserved c =
    let rest = c.loop-rest.rest.now in
    let old = c.args.out.now.items in
    let byte : c.null_byte.result ≡ null_flags (take c.min.result rest) = c.null_byte.ensures ∙ ap null_flags c.split_at.ensures.front in
    let some : 0 < length rest = grind (arith, nat_tests, c.is_empty.ensures, c.loop-rest-test.true) in
    record {
      so_far = rw (c.in_ok-push.ensures.items, byte, c.split_at.ensures.back) (bitmap-step c.loop-rest.out.items (old ++ null_bitmap c.args.row.now) rest c.min.result c.min.ensures some c.loop-rest.invariant.so_far);
      kept = rw c.in_ok-push.ensures.items (front_stays old c.loop-rest.out.items (c.null_byte.result ∷ []) c.loop-rest.invariant.kept);
    }
