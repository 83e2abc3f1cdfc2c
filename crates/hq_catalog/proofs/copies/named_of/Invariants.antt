-- The names so far are marked.
use Rattle.std.proofs.Common.{◌≡◌, length, take}
use Rattle.hq_catalog.specs.Copies.{AreNamed}
use Rattle.hq_catalog.proofs.copies.named_of.Given as goal

abbrev pub invariant-loop-name : goal.invariant-loop-name
invariant-loop-name l = record { many : length l.named ≡ 64; marked : AreNamed (take l.name-index l.wanted) l.names.keys l.named }
