use Rattle.std.proofs.Common.{◌≡◌, drop, slice_get}
use Rattle.hq_algebra.specs.Kinds.{every}
use Rattle.hq_algebra.proofs.Every.{with_front}
use Rattle.hq_algebra.proofs.operators.keys_kinds.Given as goal

abbrev pub invariant-loop-key : goal.invariant-loop-key
invariant-loop-key l = with_front l.found (every (slice_get l.kinds) (drop l.key-index l.keys)) ≡ every (slice_get l.kinds) l.keys
