use Rattle.std.proofs.Common.{ℕ, ◌<◌, List, [], ◌∷◌, slice_index_or}
use Rattle.hq_value.specs.declared.value.Value.{Value}
use Rattle.hq_value.specs.Bucket.{HasColumns}
use Rattle.hq_bench.proofs.motions.have_a_column.Given as goal

abbrev pub invariant-loop-row : goal.invariant-loop-row
invariant-loop-row l = (k : ℕ) (d : List Value) → k < l.row-index → HasColumns (0 ∷ []) (slice_index_or l.rows k d)
