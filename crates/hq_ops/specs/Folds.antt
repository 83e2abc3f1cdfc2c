-- What values come to together.
--     order_of extreme          the order in which the least or the greatest comes first
--     whole_of t, number_of t   the number of a sum that is kept in two parts
use Rattle.std.specs.Prelude.{ℤ, pos, ◌+ℤ◌, ◌*ℤ◌, ◌^◌, Option, Some, None}
use Rattle.std.specs.declared.cmp.Ordering.{Ordering}
use Rattle.hq_value.specs.declared.value.Value.{Value}
use Rattle.hq_value.specs.Order.{value_cmp}
use Rattle.hq_meaning.specs.Aggregates.{falling_cmp}
use Rattle.hq_ops.specs.declared.total.Total.{Total}
use Rattle.hq_ops.specs.declared.best.Extreme.{Extreme}
use Rattle.hq_ops.specs.declared.best.Extreme.TheVariants as extreme

-- the order in which the least or the greatest comes first; NULL comes last in both
abbrev pub order_of : Extreme → Value → Value → Ordering
order_of extreme.Least = value_cmp
order_of extreme.Greatest = falling_cmp

-- a sum that is kept in two parts
abbrev pub whole_of : Total → ℤ
whole_of t = t.high *ℤ pos (2 ^ 63) +ℤ t.low

-- the number of such a sum, if there is one
abbrev pub number_of : Option Total → Option ℤ
number_of None = None
number_of (Some t) = Some (whole_of t)
