use Rattle.std.proofs.Common.{length}
use Rattle.hq_bind.proofs.query_faults.+repeats_source.Given as goal

abbrev pub decreases-repeats_source : goal.decreases-repeats_source
decreases-repeats_source l = length l.sources.now
