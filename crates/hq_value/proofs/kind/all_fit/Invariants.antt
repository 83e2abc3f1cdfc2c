use Rattle.std.proofs.Common.{◌≡◌, ◌<◌, ℕ, true, List, slice_index_or, take}
use Rattle.hq_value.specs.declared.value.Value.{Value}
use Rattle.hq_value.specs.Kinds.{Fits, are_fit}
use Rattle.hq_value.proofs.kind.all_fit.Given as goal

abbrev pub invariant-loop-row : goal.invariant-loop-row
invariant-loop-row l = record {
  test : are_fit l.kinds (take l.row-index l.rows) ≡ true;
  fact : (k : ℕ) (d : List Value) → k < l.row-index → Fits l.kinds (slice_index_or l.rows k d);
}
