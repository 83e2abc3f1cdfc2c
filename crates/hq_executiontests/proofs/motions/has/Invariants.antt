use Rattle.std.proofs.Common.{ℕ, ◌<◌, length, slice_index_or}
use Rattle.hq_executiontests.proofs.motions.has.Given as goal

abbrev pub invariant-loop-key : goal.invariant-loop-key
invariant-loop-key l = (k d : ℕ) → k < l.key-index → slice_index_or l.keys k d < length l.row
