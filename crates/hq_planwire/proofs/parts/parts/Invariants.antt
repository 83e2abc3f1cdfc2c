use Rattle.std.proofs.Common.{◌≡◌, take}
use Rattle.hq_planwire.specs.Rules.{slices_of}
use Rattle.hq_planwire.proofs.parts.parts.Given as goal

abbrev pub invariant-loop-slice : goal.invariant-loop-slice
invariant-loop-slice l = slices_of l.found.items ≡ take l.slice-index l.slices
