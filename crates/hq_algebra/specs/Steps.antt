-- The steps of an evaluation, over values.
--     arith_of kind a b           exact arithmetic, a fault where it leaves 64 bits
--     compare_of kind a b         a comparison, unknown at NULL
--     and_of, or_of, not_of       the tables of TRUE, FALSE and unknown
use Rattle.std.specs.Prelude.{◌≡◌, Option, Some, None, ◌^◌, Bool, true, false, not, ℤ, pos, negsuc, ◌+ℤ◌, ◌*ℤ◌, neg_ℤ, nat_lt, if◌then◌else◌}
use Rattle.hq_value.specs.declared.value.Value.{Value}
use Rattle.hq_value.specs.declared.value.Value.TheVariants as value
use Rattle.hq_value.specs.Order.{value_cmp}
use Rattle.hq_value.specs.Compare.{passes}
use Rattle.hq_value.specs.declared.operator.ArithKind.{ArithKind}
use Rattle.hq_value.specs.declared.operator.ArithKind.TheVariants as arith
use Rattle.hq_value.specs.declared.operator.CompareKind.{CompareKind}
use Rattle.hq_value.specs.declared.operator.CompareKind.TheVariants as compare
use Rattle.hq_algebra.specs.Outcome.{Outcome, Is, Fault}

-- the number lies in 64 bits, with its sign
abbrev pub is_64 : ℤ → Bool
is_64 (pos n) = nat_lt n (2 ^ 63)
is_64 (negsuc n) = nat_lt n (2 ^ 63)

abbrev pub exact_step : ArithKind → ℤ → ℤ → ℤ
exact_step arith.Plus a b = a +ℤ b
exact_step arith.Minus a b = a +ℤ neg_ℤ b
exact_step arith.Times a b = a *ℤ b

abbrev pub in_64 : ℤ → Outcome
in_64 n = if is_64 n then Is (value.Int n) else Fault

-- the exact number of two integers, a fault where it leaves 64 bits; NULL where an operand is NULL
abbrev pub arith_of : ArithKind → Value → Value → Outcome
arith_of kind (value.Int a) (value.Int b) = in_64 (exact_step kind a b)
arith_of kind _ _ = Is value.Null

-- a checked step gives the exact number, and none exactly where that leaves 64 bits
abbrev pub Steps : Option ℤ → ℤ → Type 0
Steps None n = is_64 n ≡ false
Steps (Some m) n = (is_64 n ≡ true) × (m ≡ n)

-- by value order; unknown, which is NULL, where a side is NULL
abbrev pub compare_of : CompareKind → Value → Value → Value
compare_of kind value.Null b = value.Null
compare_of kind a value.Null = value.Null
compare_of kind a b = value.Bool (passes kind (value_cmp a b))

-- TRUE, FALSE, or none for unknown
abbrev pub truth : Value → Option Bool
truth (value.Bool b) = Some b
truth _ = None

abbrev pub from_truth : Option Bool → Value
from_truth (Some b) = value.Bool b
from_truth None = value.Null

-- FALSE where a side is FALSE, TRUE where both are TRUE, else unknown
abbrev pub and_truth : Option Bool → Option Bool → Option Bool
and_truth (Some false) b = Some false
and_truth a (Some false) = Some false
and_truth (Some true) (Some true) = Some true
and_truth _ _ = None

-- TRUE where a side is TRUE, FALSE where both are FALSE, else unknown
abbrev pub or_truth : Option Bool → Option Bool → Option Bool
or_truth (Some true) b = Some true
or_truth a (Some true) = Some true
or_truth (Some false) (Some false) = Some false
or_truth _ _ = None

abbrev pub not_truth : Option Bool → Option Bool
not_truth (Some b) = Some (not b)
not_truth None = None

abbrev pub and_of : Value → Value → Value
and_of a b = from_truth (and_truth (truth a) (truth b))

abbrev pub or_of : Value → Value → Value
or_of a b = from_truth (or_truth (truth a) (truth b))

abbrev pub not_of : Value → Value
not_of a = from_truth (not_truth (truth a))

abbrev pub is_null : Value → Bool
is_null value.Null = true
is_null _ = false

-- TRUE or FALSE, never unknown
abbrev pub is_null_of : Value → Value
is_null_of a = value.Bool (is_null a)
