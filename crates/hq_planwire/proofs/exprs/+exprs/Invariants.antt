use Rattle.std.proofs.Common.{◌+◌, ◌*◌}
use Rattle.hq_planwire.proofs.exprs.+exprs.Given as goal

abbrev pub decreases-expr_at : goal.decreases-expr_at
decreases-expr_at l = 3 * l.depth

abbrev pub decreases-two_at : goal.decreases-two_at
decreases-two_at l = 3 * l.depth + 1

abbrev pub decreases-expr_of : goal.decreases-expr_of
decreases-expr_of l = 3 * l.depth + 2
