-- The bytes so far are those from `at` on.
use Rattle.std.proofs.Common.{◌≡◌, ◌+◌, ◌-◌, ◌≤◌, length, take, slice_range}
use Rattle.hq_store.specs.Pages.{bytes_in}
use Rattle.hq_store.proofs.read.read.Given as goal

abbrev pub invariant-loop-done : goal.invariant-loop-done
invariant-loop-done l = (l.done ≤ length l.into) × (take l.done l.into ≡ slice_range (bytes_in l.groups l.pages l.runs l.unshared) l.at (l.at + l.done))

abbrev pub decreases-loop-done : goal.decreases-loop-done
decreases-loop-done l = length l.initial.into - l.done
