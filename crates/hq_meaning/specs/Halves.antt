-- The two halves in which a partial sum stands.
--     halves v         h and l, where the sum is h * 2^63 + l and l lies from 0 to below 2^63; both NULL over no value
--     whole h l        the sum, NULL where a half is NULL
use Rattle.std.specs.Prelude.{ℕ, ◌-◌, ◌/◌, ◌%◌, ◌^◌, List, [], ◌∷◌, ℤ, pos, negsuc, ◌+ℤ◌, ◌*ℤ◌}
use Rattle.hq_value.specs.declared.value.Value.{Value}
use Rattle.hq_value.specs.declared.value.Value.TheVariants as value

-- how often d goes into a number, rounded down
abbrev pub high : ℕ → ℤ → ℤ
high d (pos n) = pos (n / d)
high d (negsuc n) = negsuc (n / d)

-- what is left, from 0 to below d
abbrev pub low : ℕ → ℤ → ℕ
low d (pos n) = n % d
low d (negsuc n) = d - 1 - n % d

-- the two columns of a sum
abbrev pub halves : Value → List Value
halves (value.Int n) = value.Int (high (2 ^ 63) n) ∷ value.Int (pos (low (2 ^ 63) n)) ∷ []
halves _ = value.Null ∷ value.Null ∷ []

-- and the sum of two columns
abbrev pub whole : Value → Value → Value
whole (value.Int h) (value.Int l) = value.Int (h *ℤ pos (2 ^ 63) +ℤ l)
whole _ _ = value.Null
