use Rattle.std.proofs.Common.{◌<◌, length}
use Rattle.hq_whole.proofs.choosing.largest.Given as goal

abbrev pub invariant-loop-i : goal.invariant-loop-i
invariant-loop-i l = l.found < length l.sources
