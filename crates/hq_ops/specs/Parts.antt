-- What stands for an aggregate in a row, as a list.
use Rattle.std.specs.Prelude.{List, [], ◌∷◌}
use Rattle.hq_value.specs.declared.value.Value.{Value}
use Rattle.hq_ops.specs.declared.parts.Parts.{Parts}
use Rattle.hq_ops.specs.declared.parts.Parts.TheVariants as parts

-- one value, or two halves
abbrev pub listed : Parts → List Value
listed (parts.One v) = v ∷ []
listed (parts.Halves high low) = high ∷ low ∷ []
