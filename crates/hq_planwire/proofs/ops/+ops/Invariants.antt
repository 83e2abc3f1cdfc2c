use Rattle.std.proofs.Common.{◌+◌, ◌*◌}
use Rattle.hq_planwire.proofs.ops.+ops.Given as goal

abbrev pub decreases-op_at : goal.decreases-op_at
decreases-op_at l = 3 * l.depth

abbrev pub decreases-op_of : goal.decreases-op_of
decreases-op_of l = 3 * l.depth + 2

abbrev pub decreases-filter_of : goal.decreases-filter_of
decreases-filter_of l = 3 * l.depth + 1

abbrev pub decreases-project_of : goal.decreases-project_of
decreases-project_of l = 3 * l.depth + 1

abbrev pub decreases-join_of : goal.decreases-join_of
decreases-join_of l = 3 * l.depth + 1

abbrev pub decreases-partial_of : goal.decreases-partial_of
decreases-partial_of l = 3 * l.depth + 1

abbrev pub decreases-final_of : goal.decreases-final_of
decreases-final_of l = 3 * l.depth + 1

abbrev pub decreases-sort_of : goal.decreases-sort_of
decreases-sort_of l = 3 * l.depth + 1
