use Rattle.std.proofs.Common.{ap, ◌∙◌}
use Rattle.std.specs.Prelude.{fold}
use Rattle.hq_value.specs.Bucket.{key_at, hash_step}
use Rattle.hq_value.proofs.Hashing.{hash_of-more}
use Rattle.hq_value.proofs.key.hash_of_places.Goals as goal

pub loop-place-preserved : goal.loop-place-preserved
loop-place-preserved c =
    c.hash_value-hash.ensures ∙ ap (fold hash_step c.loop-place.hash) c.column.ensures ∙ hash_of-more (key_at c.args.row.now) c.args.places.now c.loop-place.place-index c.loop-place.hash c.loop-place-test.true c.loop-place.invariant
