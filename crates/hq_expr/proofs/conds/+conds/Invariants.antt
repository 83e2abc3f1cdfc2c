use Rattle.std.proofs.Common.{◌≡◌, ◌+◌, ◌-◌, ◌*◌}
use Rattle.hq_expr.specs.Words.{Cond, Both}
use Rattle.hq_expr.specs.Reading.{many, chain, both, neg}
use Rattle.hq_expr.proofs.conds.+conds.Given as goal

abbrev pub decreases-neg : goal.decreases-neg
decreases-neg l = 4 * l.depth

abbrev pub decreases-both : goal.decreases-both
decreases-both l = 4 * l.depth + 1

abbrev pub decreases-cond : goal.decreases-cond
decreases-cond l = 4 * l.depth + 2

abbrev pub invariant-cond-loop-turn : goal.invariant-cond-loop-turn
invariant-cond-loop-turn l =
    many Cond (both (neg l.depth l.aggs)) l.fn.cursor ≡ chain Cond (both (neg l.depth l.aggs)) (l._turn-end - l._turn) l.left l.cursor

abbrev pub invariant-both-loop-turn : goal.invariant-both-loop-turn
invariant-both-loop-turn l =
    many Both (neg l.depth l.aggs) l.fn.cursor ≡ chain Both (neg l.depth l.aggs) (l._turn-end - l._turn) l.left l.cursor
