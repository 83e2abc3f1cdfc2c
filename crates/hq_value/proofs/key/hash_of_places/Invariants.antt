use Rattle.std.proofs.Common.{◌≡◌, take}
use Rattle.std.specs.Prelude.{flat_map}
use Rattle.hq_value.specs.Bucket.{hash_of, key_at}
use Rattle.hq_value.proofs.key.hash_of_places.Given as goal

abbrev pub invariant-loop-place : goal.invariant-loop-place
invariant-loop-place l = l.hash ≡ hash_of (flat_map (key_at l.row) (take l.place-index l.places))
