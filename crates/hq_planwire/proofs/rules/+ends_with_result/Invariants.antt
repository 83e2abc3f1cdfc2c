use Rattle.std.proofs.Common.{length}
use Rattle.hq_planwire.proofs.rules.+ends_with_result.Given as goal

abbrev pub decreases-ends_with_result : goal.decreases-ends_with_result
decreases-ends_with_result l = length l.slices.now
