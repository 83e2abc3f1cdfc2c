use Rattle.std.proofs.Common.{◌≡◌, take}
use Rattle.hq_meaning.specs.Groups.{key_of}
use Rattle.hq_ops.proofs.groups.key_row.Given as goal

abbrev pub invariant-loop-place : goal.invariant-loop-place
invariant-loop-place l = l.values ≡ key_of (take l.place-index l.places) l.row
