-- How the text of a literal is held.
use Rattle.std.specs.Prelude.{ℕ, ◌<◌, List, length, string_bytes}
use Rattle.hq_expr.specs.declared.long_text.Held.{Held}
use Rattle.hq_expr.specs.declared.long_text.Held.TheVariants as held

abbrev pub held_bytes : Held → List ℕ
held_bytes (held.Short chars) = chars
held_bytes (held.Long text) = string_bytes text

-- what is not held as the text of a value is too long for one
abbrev pub IsHeld : Held → Type 0
IsHeld (held.Short chars) = Unit {0}
IsHeld (held.Long text) = 1000 < length (string_bytes text)
