-- What an aggregate has come to.
--     sum_in, halves_in r     the sum, or that of halves, if there is one
--     best_in r               the value that comes first, NULL where there is none
use Rattle.std.specs.Prelude.{ℤ, Option, Some, None}
use Rattle.hq_value.specs.declared.value.Value.{Value}
use Rattle.hq_value.specs.declared.value.Value.TheVariants as value
use Rattle.hq_ops.specs.declared.running.Running.{Running}
use Rattle.hq_ops.specs.declared.running.Running.TheVariants as running
use Rattle.hq_ops.specs.Folds.{whole_of}

-- the sum, if there is one
abbrev pub sum_in : Running → Option ℤ
sum_in (running.Sum n) = Some n
sum_in _ = None

-- the sum of halves, if there is one
abbrev pub halves_in : Running → Option ℤ
halves_in (running.Halves t) = Some (whole_of t)
halves_in _ = None

-- the value that comes first, NULL where there is none
abbrev pub best_in : Running → Value
best_in (running.Best v) = v
best_in _ = value.Null
