-- What an evaluation comes to.
--     Is value, Fault           a value, or a step of arithmetic left 64 bits
--     of_one f o                f of the operand's value
--     of_two f o p              f of both values; both operands are evaluated
use Rattle.std.specs.Prelude.{Option, Some, None}
use Rattle.hq_value.specs.declared.value.Value.{Value}

pub data Outcome : Type 0 where
  Is : (value : Value) → Outcome
  Fault : Outcome

-- f of the operand's value, where that is no fault
abbrev pub of_one : (Value → Value) → Outcome → Outcome
of_one f (Is a) = Is (f a)
of_one f Fault = Fault

-- f of both values; a fault of either operand is a fault, whatever the other one is
abbrev pub of_two : (Value → Value → Outcome) → Outcome → Outcome → Outcome
of_two f (Is a) (Is b) = f a b
of_two f _ _ = Fault

abbrev pub of_two_values : (Value → Value → Value) → Outcome → Outcome → Outcome
of_two_values f = of_two (λ a b. Is (f a b))

-- a value, or a fault in place of none
abbrev pub option_outcome : Option Value → Outcome
option_outcome (Some value) = Is value
option_outcome None = Fault
