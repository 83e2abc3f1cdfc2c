-- What an aggregate reads of each row, and what that comes to.
--     reads column row         the value that it reads
--     reads_fault column row   reading it faults
--     joins column u v         two such values together
--     comes column rows        all of them together, NULL over none
--     seen column running      what it has come to
--     given column v           what stands for it in the rows that are given
--     leaves column v          a count or a sum that has to be a number of 64 bits, and is none
use Rattle.std.specs.Prelude.{◌+◌, Bool, false, List, [], ◌∷◌, map, pos}
use Rattle.hq_value.specs.declared.value.Value.{Value}
use Rattle.hq_value.specs.declared.value.Value.TheVariants as value
use Rattle.hq_algebra.specs.declared.expr.Expr.TheVariants as expr
use Rattle.hq_algebra.specs.declared.aggregate.Aggregate.{Aggregate}
use Rattle.hq_algebra.specs.declared.aggregate.Aggregate.TheVariants as agg
use Rattle.hq_algebra.specs.Eval.{column, value_at, faults_at}
use Rattle.hq_meaning.specs.Rows.{Row}
use Rattle.hq_meaning.specs.Aggregates.{one_for, together, over, from_number, or_zero, is_out}
use Rattle.hq_meaning.specs.Halves.{halves, whole}
use Rattle.hq_ops.specs.declared.best.Extreme.{Extreme}
use Rattle.hq_ops.specs.declared.best.Extreme.TheVariants as extreme
use Rattle.hq_ops.specs.declared.column.Column.{Column}
use Rattle.hq_ops.specs.declared.column.Column.TheVariants as reads_of
use Rattle.hq_ops.specs.declared.running.Running.{Running}
use Rattle.hq_ops.specs.Runnings.{sum_in, halves_in, best_in}

-- the value that it reads
abbrev pub reads : Column → Row → Value
reads reads_of.Rows row = value.Int (pos 1)
reads (reads_of.Present e) row = one_for (value_at e.now row)
reads (reads_of.Sum e) row = value_at e.now row
reads (reads_of.Best x e) row = value_at e.now row
reads (reads_of.SumAt place) row = column row place
reads (reads_of.HalvesAt place) row = whole (column row place) (column row (place + 1))
reads (reads_of.BestAt x place) row = column row place

-- reading it faults
abbrev pub reads_fault : Column → Row → Bool
reads_fault (reads_of.Present e) row = faults_at e.now row
reads_fault (reads_of.Sum e) row = faults_at e.now row
reads_fault (reads_of.Best x e) row = faults_at e.now row
reads_fault _ row = false

abbrev pub seeks : Extreme → Aggregate
seeks extreme.Least = agg.Min (expr.Literal value.Null)
seeks extreme.Greatest = agg.Max (expr.Literal value.Null)

-- an aggregate that puts values together alike: a sum, the least or the greatest
abbrev pub alike : Column → Aggregate
alike (reads_of.Best x e) = seeks x
alike (reads_of.BestAt x place) = seeks x
alike _ = agg.CountAll

-- two values together
abbrev pub joins : Column → Value → Value → Value
joins c = together (alike c)

-- all of them together, NULL over none
abbrev pub comes : Column → List Row → Value
comes c rows = over (alike c) (map (reads c) rows)

-- what it has come to
abbrev pub seen : Column → Running → Value
seen (reads_of.HalvesAt place) r = from_number (halves_in r)
seen (reads_of.Best x e) r = best_in r
seen (reads_of.BestAt x place) r = best_in r
seen _ r = from_number (sum_in r)

-- what stands for it in the rows that are given
abbrev pub given : Column → Value → List Value
given (reads_of.Sum e) v = halves v
given (reads_of.Best x e) v = v ∷ []
given (reads_of.HalvesAt place) v = v ∷ []
given (reads_of.BestAt x place) v = v ∷ []
given _ v = or_zero v ∷ []

-- a count or a sum that has to be a number of 64 bits, and is none
abbrev pub leaves : Column → Value → Bool
leaves (reads_of.SumAt place) v = is_out (or_zero v)
leaves (reads_of.HalvesAt place) v = is_out v
leaves _ v = false
