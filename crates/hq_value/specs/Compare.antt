-- The comparisons.
--     passes kind order       the comparison holds of two values in this order
use Rattle.std.specs.Prelude.{Bool}
use Rattle.std.specs.Ordering.{is_eq, is_ne, is_lt, is_le, is_gt, is_ge}
use Rattle.std.specs.declared.cmp.Ordering.{Ordering}
use Rattle.hq_value.specs.declared.operator.CompareKind.{CompareKind}
use Rattle.hq_value.specs.declared.operator.CompareKind.TheVariants as compare

-- the comparison holds of two values in this order
abbrev pub passes : CompareKind → Ordering → Bool
passes compare.Equal order = is_eq order
passes compare.NotEqual order = is_ne order
passes compare.Less order = is_lt order
passes compare.AtMost order = is_le order
passes compare.Greater order = is_gt order
passes compare.AtLeast order = is_ge order
