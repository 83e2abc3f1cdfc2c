-- No append has failed.
use Rattle.std.proofs.Common.{true}
use Rattle.hq_store.specs.FileStep.{HasNoTail}
use Rattle.hq_storagetests.proofs.seals.sealed_part_by_part.Given as goal

abbrev pub invariant-loop-part : goal.invariant-loop-part
invariant-loop-part l = HasNoTail true l.file
