use Rattle.std.proofs.Common.{◌≡◌, drop}
use Rattle.hq_block.specs.Reading.{bounds_at, with_front}
use Rattle.hq_block.proofs.bounds.bounds_at.Given as goal

abbrev pub invariant-loop-kind : goal.invariant-loop-kind
invariant-loop-kind l = with_front l.bounds.items (bounds_at (drop l.kind-index l.kinds) l.rest) ≡ bounds_at l.kinds l.bytes
