use Rattle.std.proofs.Common.{◌≡◌, ◌+◌, ◌-◌, ◌*◌}
use Rattle.hq_expr.specs.Words.{Sum, Term}
use Rattle.hq_expr.specs.Reading.{many, chain, term, factor}
use Rattle.hq_expr.proofs.sums.+sums.Given as goal

abbrev pub decreases-factor : goal.decreases-factor
decreases-factor l = 8 * l.depth

abbrev pub decreases-term : goal.decreases-term
decreases-term l = 8 * l.depth + 1

abbrev pub decreases-sum : goal.decreases-sum
decreases-sum l = 8 * l.depth + 2

abbrev pub decreases-aggregate : goal.decreases-aggregate
decreases-aggregate l = 8 * l.depth + 3

abbrev pub decreases-operand : goal.decreases-operand
decreases-operand l = 8 * l.depth + 4

abbrev pub invariant-sum-loop-turn : goal.invariant-sum-loop-turn
invariant-sum-loop-turn l =
    many Sum (term (factor l.depth l.aggs)) l.fn.cursor ≡ chain Sum (term (factor l.depth l.aggs)) (l._turn-end - l._turn) l.left l.cursor

abbrev pub invariant-term-loop-turn : goal.invariant-term-loop-turn
invariant-term-loop-turn l =
    many Term (factor l.depth l.aggs) l.fn.cursor ≡ chain Term (factor l.depth l.aggs) (l._turn-end - l._turn) l.left l.cursor
