-- The tables below place i are told, if the scope has them.
use Rattle.std.proofs.Common.{◌≡◌, take}
use Rattle.hq_snap.specs.Caches.{have_of}
use Rattle.hq_snap.proofs.cache.have_in.Given as goal

abbrev pub invariant-loop-i : goal.invariant-loop-i
invariant-loop-i g l = l.have.items ≡ have_of l.scope (take l.i l.tables) (take l.i l.places)
