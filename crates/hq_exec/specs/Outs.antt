-- Where rows go.
--     OutState                the kinds that rows have to fit, if there are such, and what holds of the rows that were put
--     Suits kinds rows        rows may be put
--     Accepts kinds found     rows of these kinds may be put
--     Adds rows before after  these rows were put behind those from before
use Rattle.std.specs.Prelude.{◌≡◌, List, ◌++◌, Option, Some, None}
use Rattle.hq_value.specs.declared.value.Value.{Value}
use Rattle.hq_value.specs.declared.kind.Kind.{Kind}
use Rattle.hq_fits.specs.Supplied.{AreFit}

-- the kinds that rows have to fit, if there are such, and what holds of the rows that were put: of a list that it has
-- them, of bytes that they are theirs
pub record OutState : Type 1 where
  pub kinds : Option (List Kind)
  pub holds : List (List Value) → Type 0

-- rows may be put
abbrev pub Suits : Option (List Kind) → List (List Value) → Type 0
Suits None rows = Unit {0}
Suits (Some kinds) rows = AreFit kinds rows

-- rows of these kinds may be put
abbrev pub Accepts : Option (List Kind) → List Kind → Type 0
Accepts None found = Unit {0}
Accepts (Some kinds) found = kinds ≡ found

-- these rows were put behind those from before
abbrev pub Adds : List (List Value) → OutState → OutState → Type 0
Adds rows before after = (others : List (List Value)) → before.holds others → after.holds (others ++ rows)
