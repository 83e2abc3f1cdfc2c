-- Tables by their numbers.
--     def_of defs t          the definition of table t, if it is there
--     kinds_by defs t        the kinds of its columns, none where it is not there
--     keys_by defs t         the keys by which it is distributed, none where it is not there or has none
--     KeepRules defs parts   rows have their table's number of columns, and those of a table with keys stand in the
--                            bucket of them
use Rattle.std.specs.Prelude.{ℕ, ◌==◌, List, [], ◌∷◌, Option, Some, None, if◌then◌else◌}
use Rattle.std.specs.Option.{option_map_or}
use Rattle.hq_value.specs.declared.kind.Kind.{Kind}
use Rattle.hq_value.specs.Kinds.{kinds_of}
use Rattle.hq_value.specs.Tables.{Definition}
use Rattle.hq_meaning.specs.Plans.{Parts}
use Rattle.hq_laws.specs.Spread.{FitKinds}
use Rattle.hq_laws.specs.Placed.{StandByOwn}

abbrev pub Defs : Type 0
Defs = List (ℕ × Definition)

-- the definition of table t, if it is there
abbrev pub def_of : Defs → ℕ → Option Definition
def_of [] t = None
def_of (d ∷ defs) t = if d.0 == t then Some d.1 else def_of defs t

-- the kinds of its columns, none where it is not there
abbrev pub kinds_by : Defs → ℕ → List Kind
kinds_by defs t = option_map_or (λ (d : Definition). kinds_of d.columns) (def_of defs t) []

-- the keys by which it is distributed
abbrev pub keys_by : Defs → ℕ → List ℕ
keys_by defs t = option_map_or (λ (d : Definition). d.keys) (def_of defs t) []

-- rows have their table's number of columns, and those of a table with keys stand in the bucket of them
abbrev pub KeepRules : Defs → Parts → Type 0
KeepRules defs parts = FitKinds (kinds_by defs) parts × StandByOwn (keys_by defs) parts
