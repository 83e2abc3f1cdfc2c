-- The runs so far end within the bytes before the place.
use Rattle.std.proofs.Common.{◌≡◌, ◌+◌, length, take}
use Rattle.hq_store.specs.Pages.{flat}
use Rattle.hq_store.proofs.tail.find_spot.Given as goal

abbrev pub invariant-loop-place : goal.invariant-loop-place
invariant-loop-place l = l.at ≡ length (flat (take l.place l.runs)) + l.within
