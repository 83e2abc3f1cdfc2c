-- The file goes on.
use Rattle.std.proofs.Common.{true}
use Rattle.hq_store.specs.FileStep.{HasNoTail}
use Rattle.hq_txntests.proofs.times.append_often.Given as goal

abbrev pub invariant-loop : goal.invariant-loop
invariant-loop l = HasNoTail true l.file
