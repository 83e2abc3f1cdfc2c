-- What aggregates come to over rows.
--     added a row                 what a row adds to an aggregate, NULL for nothing
--     together a u v              two such values together
--     over a values               all of them together, NULL over nothing
--     aggregate_of a rows         the exact value over rows, a number of any size
--     leaves_64 a value           a Count or a Sum that is no number of 64 bits
--     arguments_fault as rows     the argument of some aggregate faults over some row
use Rattle.std.specs.Prelude.{ℕ, Bool, false, not, List, [], ◌∷◌, map, ℤ, pos, ◌+ℤ◌, Option, Some, None, if◌then◌else◌}
use Rattle.std.specs.List.{list_any}
use Rattle.std.specs.Ordering.{is_gt, then_cmp, on, nat_cmp, flip_args}
use Rattle.std.specs.declared.cmp.Ordering.{Ordering}
use Rattle.hq_value.specs.declared.value.Value.{Value}
use Rattle.hq_value.specs.declared.value.Value.TheVariants as value
use Rattle.hq_value.specs.Order.{value_cmp}
use Rattle.hq_algebra.specs.declared.aggregate.Aggregate.{Aggregate}
use Rattle.hq_algebra.specs.declared.aggregate.Aggregate.TheVariants as agg
use Rattle.hq_algebra.specs.Steps.{is_64}
use Rattle.hq_algebra.specs.Eval.{value_at, faults_at}
use Rattle.hq_meaning.specs.Rows.{Row}

-- one for a value, nothing for NULL
abbrev pub one_for : Value → Value
one_for value.Null = value.Null
one_for _ = value.Int (pos 1)

-- what a row adds to an aggregate, NULL for nothing
abbrev pub added : Aggregate → Row → Value
added agg.CountAll row = value.Int (pos 1)
added (agg.Count e) row = one_for (value_at e row)
added (agg.Sum e) row = value_at e row
added (agg.Min e) row = value_at e row
added (agg.Max e) row = value_at e row

-- the number of an Int; what is no number adds nothing
abbrev pub number : Value → Option ℤ
number (value.Int n) = Some n
number _ = None

abbrev pub from_number : Option ℤ → Value
from_number None = value.Null
from_number (Some n) = value.Int n

abbrev pub sum_of : Option ℤ → Option ℤ → Option ℤ
sum_of None n = n
sum_of m None = m
sum_of (Some m) (Some n) = Some (m +ℤ n)

-- the exact sum of what are numbers
abbrev pub plus : Value → Value → Value
plus a b = from_number (sum_of (number a) (number b))

-- the one that comes first in an order
abbrev pub sooner : (Value → Value → Ordering) → Value → Value → Value
sooner R a b = if is_gt (R a b) then b else a

abbrev pub null_rank : Value → ℕ
null_rank value.Null = 1
null_rank _ = 0

-- the greatest first, NULL last
abbrev pub falling_cmp : Value → Value → Ordering
falling_cmp = then_cmp (on null_rank nat_cmp) (flip_args value_cmp)

-- what two rows add, together; NULL adds nothing
abbrev pub together : Aggregate → Value → Value → Value
together agg.CountAll = plus
together (agg.Count e) = plus
together (agg.Sum e) = plus
together (agg.Min e) = sooner value_cmp
together (agg.Max e) = sooner falling_cmp

-- all of them together, NULL over nothing
abbrev pub over : Aggregate → List Value → Value
over a [] = value.Null
over a (v ∷ vs) = together a v (over a vs)

abbrev pub or_zero : Value → Value
or_zero value.Null = value.Int (pos 0)
or_zero v = v

-- a count over nothing is 0
abbrev pub exact : Aggregate → Value → Value
exact agg.CountAll v = or_zero v
exact (agg.Count e) v = or_zero v
exact _ v = v

-- the exact value over rows, a number of any size
abbrev pub aggregate_of : Aggregate → List Row → Value
aggregate_of a rows = exact a (over a (map (added a) rows))

abbrev pub is_out : Value → Bool
is_out (value.Int n) = not (is_64 n)
is_out _ = false

-- a Count or a Sum that is no number of 64 bits
abbrev pub leaves_64 : Aggregate → Value → Bool
leaves_64 (agg.Min e) v = false
leaves_64 (agg.Max e) v = false
leaves_64 _ v = is_out v

abbrev pub argument_faults : Aggregate → Row → Bool
argument_faults agg.CountAll row = false
argument_faults (agg.Count e) row = faults_at e row
argument_faults (agg.Sum e) row = faults_at e row
argument_faults (agg.Min e) row = faults_at e row
argument_faults (agg.Max e) row = faults_at e row

-- the argument of some aggregate faults over some row
abbrev pub arguments_fault : List Aggregate → List Row → Bool
arguments_fault aggs rows = list_any (λ row. list_any (λ a. argument_faults a row) aggs) rows
